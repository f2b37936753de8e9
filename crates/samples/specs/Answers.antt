-- The answers to all questions of a hull, told of its faces.
use Rattle.std.specs.Prelude.{◌≡◌, List, length}
use Rattle.algebra.specs.Vector.{vector}
use Rattle.samples.specs.declared.answers.Answers.{Answers}
use Rattle.solid.specs.Faces.{Ring, all_edges, open_edges_of, kept_volume_of, edge_sum_of}
use Rattle.solid.specs.Rules.{key_count_of}

pub record IsAnswered (fs : List Ring) (a : Answers) : Type 0 where
  pub faces : a.faces ≡ length fs
  pub keys : a.keys ≡ key_count_of fs
  pub edges : a.edges ≡ length (all_edges fs)
  pub open_edges : a.open_edges ≡ length (open_edges_of fs)
  pub volume : a.volume ≡ kept_volume_of fs
  pub edge_sum : vector a.edge_sum ≡ edge_sum_of fs
