-- Each step fits 128 bits, by the bound that `Machine` computes from ±2 · 10^13, and the last one is the answer.
use Rattle.std.proofs.Common.{◌≡◌, ℕ, ◌^◌, ◌<◌, ◌≤◌, T, ltb, nat_abs, ◌∙◌, rules, arith, sym, subst, ap₂, ltb→lt}
use mir.Syntax.{w128}
use Rattle.algebra.specs.Vector.{V3, vector, dot, Small, Large}
use Rattle.algebra.proofs.Bounds.{◌∷ᵛ◌}
use Rattle.algebra.proofs.Machine.{done, within, fits, stored}
use Rattle.algebra.proofs.Ring.{◌⊕◌, ◌⊗◌}
use Rattle.algebra.proofs.Vectors.{𝐚, 𝐛, dotᴱ}
use Rattle.space.proofs.vector.dot.Goals as goal
use Rattle.space.proofs.vector.dot.Goals.{After-map-b}

first : (c : After-map-b) → vector c.map-a.result ≡ vector c.args.a
first c = search rules

second : (c : After-map-b) → vector c.map-b.result ≡ vector c.args.b
second c = search rules

large : {u v : V3} → u ≡ v → Large v → Large u
large e h = subst Large (sym e) h

pub overflow_mul-result : goal.overflow_mul-result
overflow_mul-result c =
    let d = (goal.at.overflow_mul-result c).After-map-b in fits w128 (large (first d) c.requires.0 ∷ᵛ large (second d) c.requires.1 ∷ᵛ done) (𝐚.x ⊗ 𝐛.x) tt

pub overflow_mul-result-2 : goal.overflow_mul-result-2
overflow_mul-result-2 c =
    let d = (goal.at.overflow_mul-result-2 c).After-map-b in fits w128 (large (first d) c.requires.0 ∷ᵛ large (second d) c.requires.1 ∷ᵛ done) (𝐚.y ⊗ 𝐛.y) tt

pub overflow_add-result : goal.overflow_add-result
overflow_add-result c =
    let d = (goal.at.overflow_add-result c).After-map-b in fits w128 (large (first d) c.requires.0 ∷ᵛ large (second d) c.requires.1 ∷ᵛ done) (𝐚.x ⊗ 𝐛.x ⊕ 𝐚.y ⊗ 𝐛.y) tt

pub overflow_mul-result-3 : goal.overflow_mul-result-3
overflow_mul-result-3 c =
    let d = (goal.at.overflow_mul-result-3 c).After-map-b in fits w128 (large (first d) c.requires.0 ∷ᵛ large (second d) c.requires.1 ∷ᵛ done) (𝐚.z ⊗ 𝐛.z) tt

pub overflow_add-result-2 : goal.overflow_add-result-2
overflow_add-result-2 c =
    let d = (goal.at.overflow_add-result-2 c).After-map-b in fits w128 (large (first d) c.requires.0 ∷ᵛ large (second d) c.requires.1 ∷ᵛ done) (dotᴱ 𝐚 𝐛) tt

pub returns-clause-is : goal.returns-clause-is
returns-clause-is c =
    let d = (goal.at.returns-clause-is c).After-map-b in
    stored w128 (large (first d) c.requires.0 ∷ᵛ large (second d) c.requires.1 ∷ᵛ done) (dotᴱ 𝐚 𝐛) tt ∙ ap₂ dot (first d) (second d)

below : (n m k : ℕ) → n ≤ m → T (ltb m k) → n < k
below n m k h t = omega (arith, h, ltb→lt m k t)

-- three products of at most 100,000 and 2 · 10^13
pub returns-clause-fits : goal.returns-clause-fits
returns-clause-fits c = λ small.
    let d = (goal.at.returns-clause-fits c).After-map-b in
    let sum = stored w128 (large (first d) c.requires.0 ∷ᵛ large (second d) c.requires.1 ∷ᵛ done) (dotᴱ 𝐚 𝐛) tt in
    subst (λ z. nat_abs z < 2 ^ 63) (sym sum) (below _ _ (2 ^ 63) (within (subst Small (sym (first d)) small ∷ᵛ large (second d) c.requires.1 ∷ᵛ done) (dotᴱ 𝐚 𝐛)) tt)
