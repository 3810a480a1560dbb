-- The lines of unused rules, rule by rule.
use Rattle.std.proofs.Common.{◌≡◌, ℕ, ◌+◌, ◌<◌, Bool, true, false, List, [], ◌∷◌, ◌++◌, length, drop, refl, sym, ap, ◌∙◌, append_assoc}
use Rattle.std.proofs.lemmas.List.{drop_more}
use Rattle.std.specs.List.{flat_map}
use Rattle.std.specs.Prelude.{if◌then◌else◌, slice_index_or}
use Rattle.cc_binding.specs.Binding.{is_used, unused_from}
use Rattle.cc_hosting.specs.HostedRuns.{unused_line, told_if_unused}
use Rattle.cc_policy.specs.declared.policy.Rule.{Rule}
use Rattle.cc_verdicts.specs.PresentTexts.{Texts}

module _ (texts : Texts) (devices : List (List ℕ)) where
  lines_from : ℕ → List Rule → List ℕ
  lines_from number rules = flat_map unused_line (unused_from number texts devices rules)

  first_line : (number : ℕ) (rule : Rule) (rules : List Rule) → flat_map unused_line (unused_from number texts devices (rule ∷ rules))
      ≡ told_if_unused texts devices rule number ++ flat_map unused_line (unused_from (number + 1) texts devices rules)
  first_line number rule rules = by_test (is_used texts devices rule)
    where
      by_test : (b : Bool)
          → flat_map unused_line (if b then unused_from (number + 1) texts devices rules else number ∷ unused_from (number + 1) texts devices rules)
          ≡ (if b then [] else unused_line number) ++ flat_map unused_line (unused_from (number + 1) texts devices rules)
      by_test true = refl
      by_test false = refl

  -- one rule more was told
  pub one_more_told : (rules : List Rule) (at : ℕ) (rule : Rule) (begun before after all : List ℕ) → at < length rules
      → rule ≡ slice_index_or rules at rule
      → before ++ flat_map unused_line (unused_from (at + 1) texts devices (drop at rules)) ≡ begun ++ all
      → after ≡ before ++ told_if_unused texts devices rule (at + 1)
      → after ++ flat_map unused_line (unused_from ((at + 1) + 1) texts devices (drop (at + 1) rules)) ≡ begun ++ all
  one_more_told rules at rule begun before after all less is held told =
      let behind = flat_map unused_line (unused_from ((at + 1) + 1) texts devices (drop (at + 1) rules)) in
      let parts : drop at rules ≡ rule ∷ drop (at + 1) rules =
      drop_more rules at rule less ∙ ap (λ it. it ∷ drop (at + 1) rules) (sym is) in
      ap (λ t. t ++ behind) told ∙ append_assoc before (told_if_unused texts devices rule (at + 1)) behind
      ∙ ap (λ t. before ++ t) (sym (ap (λ rs. flat_map unused_line (unused_from (at + 1) texts devices rs)) parts ∙ first_line (at + 1) rule (drop (at + 1) rules)))
      ∙ held
