-- Lemmas on texts that are written by turns: a turn puts something behind what waits, and leaves the rest.
use Rattle.std.proofs.Common.{◌≡◌, ℕ, List, [], ◌++◌, Option, sym, ap, ◌∙◌, subst, append_assoc, append-nil}
use Rattle.std.proofs.KnownBytes.{Appends-trans}
use Rattle.cc_io.specs.Pieces.{IsPassedOn}
use Rattle.cc_io.specs.Wholes.{AppendsFront}
use Rattle.cc_io.proofs.PassedPieces.{front_none, front_first, front_second}

-- a turn begins with all that is written in the end, and it is over
module _ (all : List ℕ) (a b : Option (List ℕ)) (before in_the_end : List ℕ) (passed : IsPassedOn a b before in_the_end all) where
  pub turn_found_no_memory : AppendsFront a b (before ++ all)
  turn_found_no_memory =
      subst (AppendsFront a b) passed.all (front_second a b b passed.gone in_the_end passed.appended (front_none b in_the_end))

  module _ (out lines : List ℕ) (same : in_the_end ≡ out ++ lines) (c : Option (List ℕ)) where
    pub turn_passed : (waiting : List ℕ) → IsPassedOn b c out waiting [] → IsPassedOn a c before (waiting ++ lines) all
    turn_passed waiting spilled = record {
      gone = passed.gone ++ spilled.gone;
      appended = Appends-trans a b c passed.gone spilled.gone passed.appended spilled.appended;
      all = append_assoc passed.gone spilled.gone (waiting ++ lines)
          ∙ ap (λ t. passed.gone ++ t)
          (sym (append_assoc spilled.gone waiting lines) ∙ ap (λ t. t ++ lines) (spilled.all ∙ append-nil out) ∙ sym same)
          ∙ passed.all;
    }

    pub turn_stopped : AppendsFront b c (out ++ []) → AppendsFront a c (before ++ all)
    turn_stopped stopped =
        let inside = subst (AppendsFront b c) (sym same) (front_first b c out lines (subst (AppendsFront b c) (append-nil out) stopped)) in
        subst (AppendsFront a c) passed.all (front_second a b c passed.gone in_the_end passed.appended inside)
