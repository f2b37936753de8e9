-- A list cut into parts by the numbers where they end.
use Rattle.std.specs.Prelude.{ℕ, ◌-◌, Bool, ◌&&◌, List, [], ◌∷◌, take, drop, ◌==◌, nat_le}

-- the ends go up from the first number to the last
abbrev pub ends_rise : ℕ → List ℕ → ℕ → Bool
ends_rise from [] n = from == n
ends_rise from (e ∷ es) n = nat_le from e && ends_rise e es n

-- the parts, of a list whose first element has the number `from`
abbrev pub cut : {X : Type 0} → ℕ → List X → List ℕ → List (List X)
cut from xs [] = []
cut from xs (e ∷ es) = take (e - from) xs ∷ cut e (drop (e - from) xs) es
