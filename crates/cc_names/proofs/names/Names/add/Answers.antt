use Rattle.std.proofs.Common.{◌≡◌, ◌∙◌, ap, sym, subst, List, ℕ, [], ◌∷◌, ◌++◌, cond, length, true, false, arith}
use Rattle.std.specs.Prelude.{encode_utf8_all}
use Rattle.std.specs.List.{list_any, position_from}
use Rattle.std.specs.Option.{is_some}
use Rattle.std.specs.Str.{bytes_eq}
use Rattle.cc_names.specs.Places.{FindsPlaces}
use Rattle.cc_names.proofs.PlacedNames.{spells, one_placed, placed_any, put_back}
use Rattle.cc_names.proofs.names.Names.add.Goals as goal

pub invariant_of-self-in-Some-1 : goal.invariant_of-self-in-Some-1
invariant_of-self-in-Some-1 c = λ text.
    let key : List ℕ = c.in_ok-text.text.items in
    let spelled : key ≡ encode_utf8_all c.args.name.now =
    c.in_ok-text.ensures.items_if_clones_equal (λ x y same. same) ∙ c.as_bytes.ensures.value ∙ c.as_str.ensures.bytes in
    put_back c.self.inside.places c.insert.new.self c.put_back.new.places key c.as_bytes-in-Some.result.now c.len-place.result
    c.in-Some.earlier (spelled ∙ sym (c.as_bytes-in-Some.ensures.value ∙ c.as_str-in-Some.ensures.bytes))
    c.in_ok-earlier.ensures.updates (sym c.in-Some.is ∙ c.in_ok-earlier.ensures.old) c.put_back.ensures text
    ∙ c.self.invariant text
    ∙ ap (position_from (spells text) 0) (sym c.reserve.ensures.items)

pub returns-in-Some : goal.returns-in-Some
returns-in-Some c =
    let name : List ℕ = c.args.name.now in
    let names : List (List ℕ) = c.args.self.now in
    let spelled : c.in_ok-text.text.items ≡ encode_utf8_all name =
    c.in_ok-text.ensures.items_if_clones_equal (λ x y same. same) ∙ c.as_bytes.ensures.value ∙ c.as_str.ensures.bytes in
    let among : list_any (bytes_eq name) names ≡ true =
    ap (list_any (bytes_eq name)) (sym c.self.view_is)
    ∙ placed_any c.self.inside.places c.self.inside.names.items c.in_ok-text.text.items name c.in_ok-earlier.field-0
    c.self.invariant spelled c.in_ok-earlier.ensures.old
    ∙ ap is_some c.in-Some.is in
    c.reserve.ensures.items ∙ c.self.view_is ∙ sym (ap (λ b. cond b names (names ++ name ∷ [])) among)

pub invariant_of-self-in-None : goal.invariant_of-self-in-None
invariant_of-self-in-None c =
    let name : List ℕ = c.args.name.now in
    let names : List (List ℕ) = c.self.inside.names.items in
    let whole : c.push_reserved.new.self.items ≡ names ++ name ∷ [] =
    c.push_reserved.ensures.items ∙ (λ i. c.reserve.ensures.items i ++ c.in_ok-copy.ensures.cases i ∷ []) in
    let last : c.len-place.result ≡ length names = omega (arith, c.len-place.ensures, c.self.inside.names.ok.0) in
    let spelled : c.in_ok-text.text.items ≡ encode_utf8_all name =
    c.in_ok-text.ensures.items_if_clones_equal (λ x y same. same) ∙ c.as_bytes.ensures.value ∙ c.as_str.ensures.bytes in
    let none : list_any (bytes_eq name) names ≡ false =
    placed_any c.self.inside.places names c.in_ok-text.text.items name c.in_ok-earlier.field-0 c.self.invariant spelled
    c.in_ok-earlier.ensures.old
    ∙ ap is_some c.in-None.is in
    subst (FindsPlaces c.insert.new.self) (sym whole)
    (one_placed c.self.inside.places c.insert.new.self names name c.in_ok-text.text c.len-place.result c.self.invariant
    spelled last none c.in_ok-earlier.ensures.updates)

pub returns-in-None : goal.returns-in-None
returns-in-None c =
    let name : List ℕ = c.args.name.now in
    let names : List (List ℕ) = c.args.self.now in
    let spelled : c.in_ok-text.text.items ≡ encode_utf8_all name =
    c.in_ok-text.ensures.items_if_clones_equal (λ x y same. same) ∙ c.as_bytes.ensures.value ∙ c.as_str.ensures.bytes in
    let none : list_any (bytes_eq name) names ≡ false =
    ap (list_any (bytes_eq name)) (sym c.self.view_is)
    ∙ placed_any c.self.inside.places c.self.inside.names.items c.in_ok-text.text.items name c.in_ok-earlier.field-0
    c.self.invariant spelled c.in_ok-earlier.ensures.old
    ∙ ap is_some c.in-None.is in
    c.push_reserved.ensures.items
    ∙ (λ i. (c.reserve.ensures.items ∙ c.self.view_is) i ++ c.in_ok-copy.ensures.cases i ∷ [])
    ∙ sym (ap (λ b. cond b names (names ++ name ∷ [])) none)
