-- What a hull's answers print: a line of how many there are of each thing, and a line of the volume and the edge sum.
use Rattle.std.specs.Prelude.{ℕ, List, ◌++◌, ℤ, pos, codes, decimal, slice_index_or}
use Rattle.std.specs.Fmt.{signed_decimal}
use Rattle.samples.specs.declared.answers.Answers.{Answers}

abbrev pub counts_printed : Answers → List ℕ
counts_printed a =
    codes "faces " ++ (decimal a.faces ++ (codes ", keys " ++ (decimal a.keys ++ (codes ", directed edges " ++ (decimal a.edges ++ (codes ", open edges " ++ decimal a.open_edges))))))

-- a part of a vector
abbrev pub part : List ℤ → ℕ → List ℕ
part v i = signed_decimal (slice_index_or v i (pos 0))

abbrev pub volume_printed : Answers → List ℕ
volume_printed a =
    codes "kept volume " ++ (signed_decimal a.volume ++ (codes ", edge sum (" ++ (part a.edge_sum 0 ++ (codes ", " ++ (part a.edge_sum 1 ++ (codes ", " ++ (part a.edge_sum 2 ++ codes ")")))))))

-- a newline, and two spaces before the second line
abbrev pub answers_printed : Answers → List ℕ
answers_printed a = counts_printed a ++ (codes "\n  " ++ volume_printed a)
