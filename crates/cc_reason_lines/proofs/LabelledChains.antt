-- What is told with the labels of a scene is what is told there; so the lines are those of the reason.
use Rattle.std.proofs.Common.{◌≡◌, ℕ, ◌-◌, List, [], ◌∷◌, ◌++◌, map, codes, length, refl, sym, ap, subst, ◌∙◌}
use Rattle.cc_capture.specs.declared.var.Elem.{Elem}
use Rattle.cc_capture.specs.Sets.{Set}
use Rattle.cc_core.specs.Contexts.{Context}
use Rattle.cc_core.specs.WellFormed.{IsWellFormedContext}
use Rattle.cc_core.proofs.Lookups.{length_map}
use Rattle.cc_checking.specs.Fillings.{filled_entry}
use Rattle.cc_mnf.specs.Scopes.{Name}
use Rattle.cc_print.specs.TypeTexts.{element_text, set_text}
use Rattle.cc_solve.specs.Solutions.{filling_of}
use Rattle.cc_labels.specs.declared.labels.Labels.{Labels}
use Rattle.cc_labels.specs.LabelTexts.{labels_in}
use Rattle.cc_reasons.specs.Causes.{Scene}
use Rattle.cc_reasons.specs.DefinitionReasons.{NotBelow}
use Rattle.cc_reasons.specs.ReasonTexts.{with_locals, behind_names, element_there, set_there, spaced, AreBeyond, is_end, LeadsOn, AreLines}
use Rattle.cc_captured_reasons.specs.CapturedChains.{AreChains, chain_lines}
use Rattle.cc_captured_reasons.specs.FilledScenes.{IsFilledScene}
use Rattle.cc_captured_reasons.specs.SetsAlone.{sets_alone}
use Rattle.cc_captured_reasons.proofs.SetsCount.{sets_alone_are_scenes, captured_is_told_by_sets}
use Rattle.cc_cause_texts.specs.CauseLines.{IsLabelling}
use Rattle.cc_definition_reasoning.specs.Reasons.{filled_scene}
use Rattle.cc_reason_lines.specs.LabelledChains.{labelled, labelled_all, labelled_chains}

-- the labels of a scene are those of it with its holes filled
pub filled_labelling : (names : List Name) (scene : Scene) (sets : List Set) (labels : Labels) → IsLabelling names scene labels
    → IsLabelling names (filled_scene sets scene) labels
filled_labelling names scene sets labels is =
    (is.0, is.1 ∙ ap (λ n. n - length (with_locals names scene.locals)) (sym (length_map (filled_entry (filling_of sets)) scene.context)))

module _ (names : List Name) (scene : Scene) (labels : Labels) (is : IsLabelling names scene labels) where
  one_labelled : (e : Elem) → labelled labels e ≡ element_there (with_locals names scene.locals) scene.context e
  one_labelled e =
      ap (λ n. element_text (labels_in labels) n e) is.1
      ∙ ap (λ l. element_text l (behind_names (with_locals names scene.locals) scene.context) e) is.0

  all_labelled : (elements : List Elem) → labelled_all labels elements ≡ spaced (with_locals names scene.locals) scene.context elements
  all_labelled [] = refl
  all_labelled (e ∷ elements) = (λ i. (codes " " ++ one_labelled e i) ++ all_labelled elements i)

  set_labelled : (set : Set) → set_text (labels_in labels) labels.locals set ≡ set_there (with_locals names scene.locals) scene.context set
  set_labelled set =
      ap (λ n. set_text (labels_in labels) n set) is.1
      ∙ ap (λ l. set_text l (behind_names (with_locals names scene.locals) scene.context) set) is.0

  chains_labelled : (chains : List (List Elem)) → labelled_chains labels chains ≡ chain_lines (with_locals names scene.locals) scene.context chains
  chains_labelled [] = refl
  chains_labelled ([] ∷ chains) = chains_labelled chains
  chains_labelled ((e ∷ []) ∷ chains) = chains_labelled chains
  chains_labelled ((e ∷ next ∷ behind) ∷ chains) = (λ i. (one_labelled e i ++ codes ":" ++ all_labelled (next ∷ behind) i) ∷ chains_labelled chains i)

  -- what is found by the filled sets alone is told by the lines with the labels
  pub captured_told : (devices : ℕ) (sets : Context) (left right : Set) (captured : List Elem) (chains : List (List Elem)) (lines : List (List ℕ))
      → IsWellFormedContext scene.context → sets ≡ sets_alone scene.context → AreBeyond sets right left.list captured
      → ((entry : Elem → List Elem) → LeadsOn devices sets right entry → AreChains entry (is_end devices) captured chains)
      → lines ≡ (codes "captured" ++ labelled_all labels captured) ∷ (codes "allowed " ++ set_text (labels_in labels) labels.locals right) ∷ labelled_chains labels chains
      → AreLines devices names (NotBelow scene left right) lines
  captured_told devices sets left right captured chains lines formed alone beyond chained are =
      subst (AreLines devices names (NotBelow scene left right))
      (sym (are ∙ (λ i. (codes "captured" ++ all_labelled captured i) ∷ (codes "allowed " ++ set_labelled right i) ∷ chains_labelled chains i)))
      (captured_is_told_by_sets devices names scene left right captured chains formed
      (subst (λ (g : Context). AreBeyond g right left.list captured) alone beyond)
      (subst (λ (g : Context). (entry : Elem → List Elem) → LeadsOn devices g right entry → AreChains entry (is_end devices) captured chains) alone chained))

-- what is asked of a scene holds of its sets alone
pub scene_alone : (g : Context) (left : Set) (sets : Context) → IsFilledScene g left → sets ≡ sets_alone g → IsFilledScene sets left
scene_alone g left sets scene alone = subst (λ (h : Context). IsFilledScene h left) (sym alone) (sets_alone_are_scenes g left scene)

-- two lines, and others behind them
pub lines_told : {A : Type 0} (text : A → List ℕ) (none one two : List A) (first second : A) (a b : List ℕ) (others lines : List (List ℕ))
    → none ≡ [] → one ≡ none ++ first ∷ [] → two ≡ one ++ second ∷ [] → text first ≡ a → text second ≡ b → lines ≡ map text two ++ others
    → lines ≡ a ∷ (b ∷ others)
lines_told text none one two first second a b others lines start then_one then_two p q are =
    are ∙ ap (λ l. map text l ++ others) (then_two ∙ ap (λ l. l ++ second ∷ []) (then_one ∙ ap (λ l. l ++ first ∷ []) start))
    ∙ (λ i. p i ∷ (q i ∷ others))
