-- What agrees with a text, and with the text of an end.
use Rattle.std.proofs.Common.{◌≡◌, ℕ, Bool, true, false, List, [], ◌∷◌, refl, sym, ap, ◌∙◌}
use Rattle.std.specs.Str.{bytes_eq}
use Rattle.std.proofs.lemmas.Slice.Eq.{bytes_eq-Decides}
use Rattle.cc_replay.specs.Replays.{Comparison, behind_line, no_line, others_decide, text_next}
use Rattle.cc_replay.specs.declared.replaying.Replayed.{Replayed}
use Rattle.cc_replay.specs.declared.replaying.Replayed.TheVariants.{Agrees, Differs}
use Rattle.cc_words.specs.Lines.{Line}

-- the first of the lines is the text, and the others agree
pub record BeginsWith (text : List ℕ) (rest : Comparison) (lines : List Line) : Type 0 where
  pub others : List Line
  pub is : lines ≡ text ∷ others
  pub agree : rest others ≡ Agrees

behind_agrees : (r : Replayed) → behind_line r ≡ Agrees → r ≡ Agrees
behind_agrees Agrees e = refl
behind_agrees (Differs k) e = cc

begins_with : (t : Bool) (text line : List ℕ) (rest : Comparison) (others : List Line) → bytes_eq line text ≡ t → others_decide t rest others ≡ Agrees → BeginsWith text rest (line ∷ others)
begins_with true text line rest others same e =
    record { others = others; is = ap (λ l. l ∷ others) ((bytes_eq-Decides line text).0 same); agree = behind_agrees (rest others) e }
begins_with false text line rest others same e = cc

pub text_agrees : (text : List ℕ) (rest : Comparison) (lines : List Line) → text_next text rest lines ≡ Agrees → BeginsWith text rest lines
text_agrees text rest [] e = cc
text_agrees text rest (line ∷ others) e = begins_with (bytes_eq line text) text line rest others refl e

pub nothing_agrees : (lines : List Line) → no_line lines ≡ Agrees → lines ≡ []
nothing_agrees [] e = refl
nothing_agrees (line ∷ others) e = cc

-- a text agrees with itself
pub text_met : (text : List ℕ) (rest : Comparison) (others : List Line) → text_next text rest (text ∷ others) ≡ behind_line (rest others)
text_met text rest others = ap (λ t. others_decide t rest others) ((bytes_eq-Decides text text).1 refl)

pub text_is_met : (text : List ℕ) (rest : Comparison) (others : List Line) → rest others ≡ Agrees → text_next text rest (text ∷ others) ≡ Agrees
text_is_met text rest others e = text_met text rest others ∙ ap behind_line e
