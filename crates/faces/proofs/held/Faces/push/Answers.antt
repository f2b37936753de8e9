use Rattle.std.proofs.Common.{◌≡◌, ◌+◌, Bool, true, true≢false, sym, cond, ◌++◌, length, is_ok, vec_len, refl, ap, ◌∙◌, arith}
use Rattle.faces.proofs.Pushes.{face_count, corner_count, rings_push, rise_more}
use Rattle.faces.proofs.held.Faces.push.Goals as goal
use Rattle.faces.proofs.held.Faces.push.Goals.{then-len-capacity-via-then-len-capacity, then-len-capacity-via-else-len-capacity+then-capacity-end, After-unwrap}

pub returns-then-len-capacity : goal.returns-then-len-capacity
returns-then-len-capacity c =
    let f = face_count c.args.self.now in
    let k = corner_count c.args.self.now in
    record {
      answer = λ faces corners room few fit. absurd (elim c.then-len-capacity.branch [
        | then-len-capacity-via-then-len-capacity w ↦ omega (arith, room.0, w.if-len-capacity.true)
        | then-len-capacity-via-else-len-capacity+then-capacity-end w ↦ omega (arith, room.1, w.if-capacity-end.true, w.capacity-else-len-capacity.ensures)
      ]);
      fits = λ taken. absurd (true≢false (sym taken));
      rings = refl;
      corners = refl;
      room = λ faces corners room. room;
    }

-- the corners were taken in
done : (c : After-unwrap) → is_ok c.extend_from_slice.result ≡ true
done c = ap is_ok c.unwrap.ensures

pub invariant_of-self : goal.invariant_of-self
invariant_of-self c =
    let s = c.args.self.now in
    let ring = c.args.ring.now in
    let n : vec_len c.extend_from_slice.new.self ≡ vec_len s.corners + length ring = c.extend_from_slice.ensures.len ∙ ap (λ (b : Bool). cond b (vec_len s.corners + length ring) (vec_len s.corners)) (done (goal.at.invariant_of-self c).After-unwrap) in
    record { rise = rise_more s _ _ _ c.push_reserved.ensures.items (omega (arith, c.len.ensures, n)) (omega (arith, c.len.ensures)) }

pub returns : goal.returns
returns c =
    let s = c.args.self.now in
    let ring = c.args.ring.now in
    let held = c.extend_from_slice.ensures.items ∙ ap (λ (b : Bool). cond b (s.corners.items ++ ring) s.corners.items) (done (goal.at.returns c).After-unwrap) in
    record {
      answer = λ _ _ _ _ _. refl;
      fits = λ _. (omega (arith, c.len.ensures, face_count s, c.capacity.ensures, c.if-len-capacity.false, s.ends.ok.1), omega (arith, c.corner_count.ensures, c.capacity-else-len-capacity.ensures, c.if-capacity-end.false));
      rings = rings_push s ring _ _ _ held c.push_reserved.ensures.items (omega (arith, c.len.ensures));
      corners = held;
      room = λ faces corners room. (omega (arith, room.0, c.push_reserved.ensures.capacity), omega (arith, room.1, c.extend_from_slice.ensures.capacity));
    }

pub push_reserved-requires : goal.push_reserved-requires
push_reserved-requires c = let s = c.args.self.now in omega (arith, c.len.ensures, face_count s, c.capacity.ensures, c.if-len-capacity.false, s.ends.ok.1)
