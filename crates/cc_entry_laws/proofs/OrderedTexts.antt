-- What is in the graph of the present texts is present.
use Rattle.std.proofs.Common.{◌≡◌, ℕ, true, List, [], ◌∷◌, Option, Some, None, refl, sym, ◌∙◌, subst, inl, inr}
use Rattle.std.proofs.lemmas.Bool.{cases_Bool}
use Rattle.std.specs.List.{AllByRecursion}
use Rattle.std.specs.Option.{is_some}
use Rattle.std.specs.Str.{bytes_eq}
use Rattle.cc_grammar.specs.Syntax.{ImportSyntax}
use Rattle.cc_graph.specs.Graph.{ImportMap, is_present, IsOrder}
use Rattle.cc_graph.proofs.OrderLaws.{orders_list_present_modules}
use Rattle.cc_graph.proofs.OrderLemmas.{listed_among}
use Rattle.cc_graph.proofs.Paths.{IsAmong}
use Rattle.cc_verdicts.specs.PresentTexts.{Texts, text_of, with_module, graph_of}
use Rattle.cc_verdicts.specs.Readings.{imports_of}

in_rest : (first : List ℕ × List ℕ) (rest : Texts) (name : List ℕ) → is_some (text_of rest name) ≡ true
    → is_some (text_of (first ∷ rest) name) ≡ true
in_rest first rest name present =
    elim (cases_Bool (bytes_eq name first.0)) [ inl same ↦ rw same refl | inr other ↦ rw other present ]

in_texts : (first : List ℕ × List ℕ) (rest : Texts) (name : List ℕ) (imports : Option (List ImportSyntax))
    → (is_present (graph_of rest) name ≡ true → is_some (text_of rest name) ≡ true)
    → is_present (with_module first.0 imports (graph_of rest)) name ≡ true
    → is_some (text_of (first ∷ rest) name) ≡ true
in_texts first rest name None behind present = in_rest first rest name (behind present)
in_texts first rest name (Some imports) behind present =
    elim (cases_Bool (bytes_eq name first.0)) [
      | inl same ↦ rw same refl
      | inr other ↦ in_rest first rest name (behind (rw other at present))
    ]

pub graph_present : (texts : Texts) (name : List ℕ) → is_present (graph_of texts) name ≡ true
    → is_some (text_of texts name) ≡ true
unfolding graph_of
graph_present [] name present = cc
graph_present (first ∷ rest) name present =
    in_texts first rest name (imports_of first.1) (graph_present rest name) present

each_present : (texts : Texts) (names xs : List (List ℕ)) → IsOrder (graph_of texts) names
    → ((x : List ℕ) → IsAmong x xs → IsAmong x names) → AllByRecursion (λ x. is_some (text_of texts x) ≡ true) xs
each_present texts names [] order inside = tt
each_present texts names (x ∷ xs) order inside = (
  graph_present texts x
      (sym ((orders_list_present_modules (graph_of texts) names order).1 x)
      ∙ listed_among names x (inside x (inl refl))),
  each_present texts names xs order (λ y among. inside y (inr among)),
)

-- the names of an order are those of present modules
pub order_present : (texts : Texts) (graph : ImportMap) (names : List (List ℕ)) → graph ≡ graph_of texts
    → IsOrder graph names → AllByRecursion (λ x. is_some (text_of texts x) ≡ true) names
order_present texts graph names same order =
    let O : ImportMap → Type 0 = λ g. IsOrder g names in
    each_present texts names names (subst O same order) (λ x among. among)
