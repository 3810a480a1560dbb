use Rattle.std.proofs.Common.{◌≡◌, ◌++◌, ap, ◌∙◌, sym, arith, length, take, drop, subst, List, ℕ}
use Rattle.std.proofs.Math.Seq.{take-append_seam}
use Rattle.cc_graph.proofs.GraphLemmas.{closed_from}
use Rattle.cc_graph.specs.Graph.{leads_through}
use Rattle.cc_graph.specs.Places.{has_at, places_below, IsClosed}
use Rattle.cc_graph.proofs.imports.closed_rows.Goals as goal

pub returns : goal.returns
returns c =
    let P : List (List ℕ) → Type 0 = λ rows. IsClosed c.args.modules.now rows in
    let len : c.in_ok-closed.closed.len ≡ length c.close.new.rows =
    omega (arith, c.in_ok-closed.closed.ok.0, c.close.auto.rows, ap length c.as_mut_slice.ensures.value) in
    let start : c.as_mut_slice.result.now ≡ c.args.rows.now = c.as_mut_slice.ensures.value ∙ c.in_ok-closed.ensures in
    let whole : take c.in_ok-closed.closed.len (c.close.new.rows ++ drop
    (length c.close.new.rows) c.in_ok-closed.closed.items) ≡ c.close.new.rows =
    ap (λ n. take n (c.close.new.rows ++ drop (length c.close.new.rows) c.in_ok-closed.closed.items)) len
    ∙ take-append_seam c.close.new.rows (drop (length c.close.new.rows) c.in_ok-closed.closed.items) in
    subst P (sym whole)
    (closed_from c.args.modules.now c.args.rows.now c.close.new.rows c.requires.rows (c.close.auto.rows
    ∙ ap length start)
    (λ from to.
    c.in_ok-close.ensures.closed from to
    ∙ ap (λ rows. leads_through (has_at rows) (places_below (length rows)) from to) start))
