-- Several kinds are printed by one text, which says the number of each.
use Rattle.std.proofs.Common.{◌≡◌, ℕ, ◌⊎◌, inl, inr, subst, refl}
use Rattle.std.specs.Fmt.{HasWritten}
use Rattle.fault.specs.Numbers.{record_number}
use Rattle.fault.specs.Printed.{at_record, at_attribute, record_printed}
use Rattle.fault.specs.declared.record.RecordFault.{RecordFault}
use Rattle.fault.specs.declared.record.RecordFault.TheVariants.{Absent, Outside, Keyword, Count, Kind, Value, Twice}
use Rattle.fault.proofs.record.RecordFaultDisplay.fmt.Goals as goal

record_only : (f : RecordFault) (n r : ℕ) → n ≡ record_number f → (f ≡ Absent r) ⊎ ((f ≡ Outside r) ⊎ ((f ≡ Keyword r) ⊎ (f ≡ Count r))) → at_record n r ≡ record_printed f
record_only f n r e (inl h) = rw (e, h) refl
record_only f n r e (inr (inl h)) = rw (e, h) refl
record_only f n r e (inr (inr (inl h))) = rw (e, h) refl
record_only f n r e (inr (inr (inr h))) = rw (e, h) refl

record_and_attribute : (f : RecordFault) (n r a : ℕ) → n ≡ record_number f → (f ≡ Kind r a) ⊎ ((f ≡ Value r a) ⊎ (f ≡ Twice r a)) → at_attribute n r a ≡ record_printed f
record_and_attribute f n r a e (inl h) = rw (e, h) refl
record_and_attribute f n r a e (inr (inl h)) = rw (e, h) refl
record_and_attribute f n r a e (inr (inr h)) = rw (e, h) refl

pub returns-in-Absent-clause-writes : goal.returns-in-Absent-clause-writes
returns-in-Absent-clause-writes g c = λ plain ok.
    subst (λ text. HasWritten g.W.Write.write_str_gives c.args.f.now text c.write-in-Absent.new.self)
    (record_only c.args.self.now _ c.in-Absent.record c.number-number.ensures c.in-Absent.is) (c.write-in-Absent.ensures.writes plain ok)

pub returns-in-Kind-clause-writes : goal.returns-in-Kind-clause-writes
returns-in-Kind-clause-writes g c = λ plain ok.
    subst (λ text. HasWritten g.W.Write.write_str_gives c.args.f.now text c.write-in-Kind.new.self)
    (record_and_attribute c.args.self.now _ c.in-Kind.record c.in-Kind.attribute c.number-number.ensures c.in-Kind.is) (c.write-in-Kind.ensures.writes plain ok)
