use Rattle.std.proofs.Common.{◌≡◌, ◌+◌, ◌∷◌, [], ◌∙◌, List, map, length, sym, ap, arith, length-append}
use Rattle.std.specs.Prelude.{reverse}
use Rattle.std.specs.Option.{unwrap_or}
use Rattle.std.proofs.lemmas.List.{length-map}
use Rattle.std.proofs.lemmas.Simd.{map-map}
use Rattle.cc_base.specs.declared.literal.Import.{Import}
use Rattle.cc_entry_laws.specs.PresentEntries.{import_of}
use Rattle.cc_parse.specs.Trees.{import_syntax}
use Rattle.cc_link.specs.Linking.{module_in_program}
use Rattle.cc_verdicts.specs.ModuleVerdicts.{in_program}
use Rattle.cc_module.specs.Judgements.{checked_definition_of}
use Rattle.cc_link.proofs.Placements.{device_placed, import_listed, own_listed, placed_none, placed_more}
use Rattle.cc_runs.specs.Links.{linked_position}
use Rattle.cc_link.proofs.positions.linked_positions.Goals as goal

pub loop-device-init : goal.loop-device-init
loop-device-init c =
    let none = c.new-to.ensures.items in
    record {
      count = ap length none;
      placed = λ earlier. placed_none (linked_position c.args.devices earlier (reverse (module_in_program c.args.current.now).imports)) c.new-to.result.items none;
    }

pub loop-device-preserved : goal.loop-device-preserved
loop-device-preserved c =
    let imports = (module_in_program c.args.current.now).imports in
    let items = c.in_ok-push.ensures.items in
    let here : c.in_ok-position.position ≡ c.loop-device.device = omega (arith, c.in_ok-position.ensures.0) in
    record {
      count = ap length items ∙ length-append c.loop-device.to.items (c.in_ok-position.position ∷ [])
          ∙ ap (λ n. n + 1) c.loop-device.invariant.count;
      placed = λ earlier.
          placed_more (linked_position c.args.devices earlier (reverse imports)) c.loop-device.to.items c.push.new.self.items
          c.loop-device.device c.in_ok-position.position c.loop-device.invariant.count (c.loop-device.invariant.placed earlier)
          (device_placed c.args.devices earlier (reverse imports) c.loop-device.device c.loop-device-test.true ∙ sym here) items;
    }

pub loop-index-init : goal.loop-index-init
loop-index-init c = record {
  count = omega (arith, c.loop-device.invariant.count);
  placed = λ earlier finds. c.loop-device.invariant.placed earlier;
}

pub loop-index-preserved : goal.loop-index-preserved
loop-index-preserved c =
    let imports = c.deref-import-items.result.now in
    let list = c.deref-import-items.ensures.value in
    let import = c.import-item.result in
    let items = c.in_ok-push-2.ensures.items in
    let index = c.loop-index.index in
    record {
      count = ap length items ∙ length-append c.loop-index.to.items (c.unwrap_or-place.result ∷ [])
          ∙ ap (λ n. n + 1) c.loop-index.invariant.count ∙ (let e : c.args.devices + index + 1 ≡ c.args.devices + (index + 1) = omega arith in e);
      placed = λ earlier finds.
          placed_more (linked_position c.args.devices earlier (reverse (module_in_program c.args.current.now).imports)) c.loop-index.to.items
          c.push-in-loop-index.new.self.items (c.args.devices + index) c.unwrap_or-place.result c.loop-index.invariant.count
          (c.loop-index.invariant.placed earlier finds)
          (ap (λ is. linked_position c.args.devices earlier (reverse is) (c.args.devices + index)) (map-map import_of import_syntax c.args.current.now.imports.items)
          ∙ ap (λ (xs : List Import). linked_position c.args.devices earlier (reverse (map (λ (one : Import). import_of (import_syntax one)) xs)) (c.args.devices + index)) (sym list)
          ∙ import_listed c.args.devices earlier (λ (one : Import). import_of (import_syntax one)) imports index import c.loop-index-test.true c.import-item.is
          ∙ sym (c.unwrap_or-place.ensures ∙ (λ j. unwrap_or ((c.position.ensures ∙ finds import.module import.def) j) (c.in_ok-here.ensures.0 j)))) items;
    }

pub loop-own-init : goal.loop-own-init
loop-own-init c =
    let checked = length-map c.args.current.now.imports.items import_syntax in
    let same = length-map (map import_syntax c.args.current.now.imports.items) import_of in
    record {
      count = omega (arith, c.loop-index.invariant.count);
      placed = λ earlier finds first. c.loop-index.invariant.placed earlier finds;
    }

pub loop-own-preserved : goal.loop-own-preserved
loop-own-preserved c =
    let imports = (module_in_program c.args.current.now).imports in
    let items = c.in_ok-push-3.ensures.items in
    let own = c.loop-own.own in
    record {
      count = ap length items ∙ length-append c.loop-own.to.items (c.in_ok-own_place.own_place ∷ [])
          ∙ ap (λ n. n + 1) c.loop-own.invariant.count ∙ (let e : c.args.devices + length imports + own + 1 ≡ c.args.devices + length imports + (own + 1) = omega arith in e);
      placed = λ earlier finds first.
          placed_more (linked_position c.args.devices earlier (reverse imports)) c.loop-own.to.items
          c.push-in-loop-own.new.self.items (c.args.devices + length imports + own) c.in_ok-own_place.own_place c.loop-own.invariant.count
          (c.loop-own.invariant.placed earlier finds first)
          (own_listed c.args.devices earlier imports own ∙ sym (c.in_ok-own_place.ensures.0 ∙ ap (λ n. n + own) first)) items;
    }

pub returns : goal.returns
returns c =
    let checked = length-map c.args.current.now.defs.items checked_definition_of in
    let same = length-map (map checked_definition_of c.args.current.now.defs.items) in_program in
    record {
      count = omega (arith, c.loop-own.invariant.count);
      positions = c.loop-own.invariant.placed;
    }
