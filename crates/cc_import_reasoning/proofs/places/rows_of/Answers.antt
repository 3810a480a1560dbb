use Rattle.std.proofs.Common.{◌≡◌, ◌+◌, ◌<◌, [], ◌∷◌, ◌++◌, length, sym, ap, ◌∙◌, arith, length-append}
use Rattle.std.specs.List.{list_any}
use Rattle.std.specs.Str.{bytes_eq}
use Rattle.cc_graph.proofs.NameLemmas.{imports_by_name}
use Rattle.cc_graph.proofs.RowLemmas.{each_pushed}
use Rattle.cc_graph.specs.Graph.{does_import}
use Rattle.cc_graph.specs.Places.{name_at, imports_at}
use Rattle.cc_judge.specs.KnownGraphs.{entries_of}
use Rattle.cc_import_reasoning.specs.Distances.{is_marked}
use Rattle.cc_import_reasoning.proofs.FoundPlaces.{as_many}
use Rattle.cc_import_reasoning.proofs.MarkedNames.{are_links, sources_at}
use Rattle.cc_import_reasoning.proofs.places.rows_of.Goals as goal

pub loop-at-preserved : goal.loop-at-preserved
loop-at-preserved c =
    let modules = c.args.modules.now in
    let graph = entries_of modules in
    let at = c.loop-at.at in
    let rows = c.loop-at.rows.items in
    let row = c.in_ok-row.row in
    let before = c.loop-at.invariant in
    let low : at < length modules = c.loop-at-test.true in
    let inside : at < length graph = (let count = as_many modules in omega arith) in
    let items : c.push.new.self.items ≡ rows ++ row ∷ [] = c.in_ok-push.ensures.items in
    let sources : c.as_slice.result.now ≡ imports_at graph at =
    c.as_slice.ensures.value ∙ ap (λ one. one.sources.items) (sym c.index-modules-at.is) ∙ sources_at modules at c.index-modules-at.result low c.index-modules-at.is in
    record {
      count = ap length items ∙ length-append rows (row ∷ []) ∙ ap (λ k. k + 1) before.count;
      marks = λ from to early within.
          rw items
          (each_pushed (λ k r. is_marked r to ≡ does_import graph (name_at graph k) (name_at graph to)) rows row [] at before.count
          (λ k less. before.marks k to less within)
          (c.in_ok-row.ensures.marks to within
          ∙ ap (λ xs. list_any (bytes_eq (name_at graph to)) xs) sources
          ∙ sym (imports_by_name graph c.requires at (name_at graph to) inside)) from early);
    }

pub returns-clause-links : goal.returns-clause-links
returns-clause-links c =
    let modules = c.args.modules.now in
    let before = c.loop-at.invariant in
    let many = as_many modules in
    let all = c.loop-at-test.false in
    let last = c.loop-at.auto.at-end in
    let count = before.count in
    are_links (entries_of modules) c.requires c.loop-at.rows.items (omega arith)
    (λ from to low within. before.marks from to (omega arith) (omega arith))
