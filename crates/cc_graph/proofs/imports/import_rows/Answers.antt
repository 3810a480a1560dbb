use Rattle.std.proofs.Common.{◌≡◌, ◌+◌, ◌<◌, false, [], ◌∷◌, ◌++◌, length, arith, inl, inr, ap, ◌∙◌, sym, length-append}
use Rattle.std.proofs.lemmas.Bool.{cases_lt}
use Rattle.std.proofs.lemmas.List.{get_or_default}
use Rattle.std.specs.List.{list_any}
use Rattle.std.specs.Str.{bytes_eq}
use Rattle.cc_graph.proofs.BitLemmas.{past_words}
use Rattle.cc_graph.proofs.NameLemmas.{imports_by_name}
use Rattle.cc_graph.proofs.RowLemmas.{each_pushed, no_row}
use Rattle.cc_graph.specs.Graph.{does_import}
use Rattle.cc_graph.specs.Places.{has_bit, has_at, width_for, name_at, imports_at}
use Rattle.cc_graph.proofs.imports.import_rows.Goals as goal

pub loop-module-init : goal.loop-module-init
loop-module-init c =
    let none = c.in_ok-rows.ensures.items in
    record {
      count = ap length none;
      wide = λ row below. absurd (omega (arith, ap length none));
      bits = λ from to below within. absurd (omega arith);
      inside = λ from to past. ap (λ rows. has_at rows from to) none ∙ past_words to;
    }

pub loop-module-preserved : goal.loop-module-preserved
loop-module-preserved c =
    let items : c.push.new.self.items ≡ c.loop-module.rows.items ++ c.in_ok-row.row ∷ [] = c.in_ok-push.ensures.items in
    let kept = c.loop-module.invariant in
    let longer : length c.push.new.self.items ≡ c.loop-module.module-index + 1 =
    omega (arith, kept.count, ap length items, length-append c.loop-module.rows.items (c.in_ok-row.row ∷ [])) in
    let within_modules : c.loop-module.module-index < length c.args.modules.now = c.loop-module-test.true in
    let names : c.as_slice.result.now ≡ imports_at c.args.modules.now c.loop-module.module-index =
    c.as_slice.ensures.value
    ∙ ap (λ m. m.1)
    (c.module.view_is ∙ c.module-item.is
    ∙ get_or_default c.args.modules.now c.loop-module.module-index c.module-item.result ([], []) within_modules)
    in
    record {
      count = longer;
      wide = λ from below.
          rw items
          (each_pushed (λ k r. length r ≡ width_for
          (length c.args.modules.now)) c.loop-module.rows.items c.in_ok-row.row [] c.loop-module.module-index kept.count
          (λ k low. kept.wide k (omega arith)) c.in_ok-row.ensures.width from (omega arith));
      bits = λ from to below within.
          rw items
          (each_pushed (λ k r. has_bit r to ≡ does_import c.args.modules.now (name_at c.args.modules.now k)
          (name_at c.args.modules.now to)) c.loop-module.rows.items c.in_ok-row.row [] c.loop-module.module-index
          kept.count
          (λ k low. kept.bits k to low within)
          (c.in_ok-row.ensures.bits to within
          ∙ ap (λ xs. list_any (bytes_eq (name_at c.args.modules.now to)) xs) names
          ∙ sym (imports_by_name c.args.modules.now c.requires c.loop-module.module-index
          (name_at c.args.modules.now to) within_modules)) from below);
      inside = λ from to past.
          elim (cases_lt from (c.loop-module.module-index + 1)) [
            | inl low ↦
                rw items
                (each_pushed (λ k r. has_bit r to ≡ false) c.loop-module.rows.items c.in_ok-row.row []
                c.loop-module.module-index kept.count
                (λ k less. kept.inside k to past) (c.in_ok-row.ensures.inside to past) from low)
            | inr beyond ↦ no_row c.push.new.self.items from to (omega arith)
          ];
    }
