use Rattle.std.proofs.Common.{◌<◌, ◌^◌, Bool, length, is_some, ap, ◌∙◌, inl, rules, arith}
use borrow.Author.Tests.{tests}
use Rattle.std.specs.FinMap.{get}
use Rattle.std.proofs.lemmas.Iterator.Consumers.{YieldsList-from_filter, YieldsList-at, count_from_yields_List}
use Rattle.solid.specs.Corners.{ring_of}
use Rattle.solid.specs.Faces.{Edge, flip, edges, all_edges, same_edge}
use Rattle.solid.specs.Lists.{has}
use Rattle.ring.proofs.Places.{edges_length}
use Rattle.ring.proofs.Turns.{road}
use Rattle.index.specs.Meaning.{faces_of}
use Rattle.table.specs.Seen.{map_of}
use Rattle.tracking.specs.Tables.{edge_cmp, end_keys}
use Rattle.tracking.proofs.Edges.{found_reverse, kept_alike}
use Rattle.index.proofs.Meanings.{edge_found}
use Rattle.index.proofs.index.Index.reverses.Goals as goal

pub count-requires-clause-fits : goal.count-requires-clause-fits
count-requires-clause-fits c =
    let h : length c.args.ring.now < 2 ^ 64 = c.well_formed.1.0.0 in
    inl (omega (arith, h, edges_length c.args.ring.now, ap length c.filter.ensures.source, ap length c.edges.ensures))

pub returns : goal.returns
returns c =
    let x = c.args.self.now in
    let fs = faces_of x in
    let es = edges (ring_of c.args.ring.now) in
    let found : Edge → Bool = λ e. is_some (get (map_of edge_cmp x.edges) (end_keys (flip e))) in
    count_from_yields_List c.filter.result c.count.result c.count.ensures.ran (YieldsList-from_filter _ found (YieldsList-at c.filter.ensures.source (road c.args.ring.now c.edges.ensures)) c.filter.ensures.closure (λ y r q k. search (rules, tests)))
    ∙ kept_alike found (λ e. has same_edge (flip e) (all_edges fs)) es (λ e i. ap is_some (edge_found x (end_keys (flip e))) ∙ found_reverse fs (ring_of c.args.ring.now) c.requires e i)
