-- Texts read character by character.
use Rattle.std.proofs.Common.{◌≡◌, ◌<◌, ◌≤◌, ◌-◌, ◌+◌, ℕ, zero, suc, true, false, List, [], ◌∷◌, length, IsUtf8, refl, ap, ◌∙◌, arith}
use Rattle.std.specs.Str.{chars}
use Rattle.cc_base.specs.declared.place.Place.{Place}
use Rattle.cc_base.specs.Names.{first_passes}
use Rattle.cc_lex.specs.Forms.{stands_in_string}
use Rattle.cc_lex.specs.Lexical.{place_after, start}
use Rattle.cc_text_reasoning.specs.Breaking.{behind_inside}
use Rattle.cc_text_reasoning.specs.Places.{is_same_place, from_place}

-- what is left at the place is what stands from the sought place on in all of the text
pub record IsLeft (text : List ℕ) (at place : Place) (rest : List ℕ) : Type 0 where
  pub utf8 : IsUtf8 rest
  pub same : from_place at place (chars rest) ≡ from_place at start (chars text)

pub here : (at place : Place) (c : ℕ) (cs : List ℕ) → is_same_place place at ≡ true → from_place at place (c ∷ cs) ≡ c ∷ cs
here at place c cs h = rw h refl

pub further : (at place next : Place) (c : ℕ) (cs : List ℕ) → is_same_place place at ≡ false → next ≡ place_after place c
    → from_place at place (c ∷ cs) ≡ from_place at next cs
further at place next c cs h e = rw (h, e) refl

-- what is left after so many of the 200 turns
pub record IsInside (text rest : List ℕ) (turn : ℕ) : Type 0 where
  pub utf8 : IsUtf8 rest
  pub same : behind_inside (200 - turn) (chars rest) ≡ behind_inside 200 (chars text)

pub one_more : (turn c : ℕ) (cs : List ℕ) → turn < 200 → stands_in_string c ≡ true
    → behind_inside (200 - turn) (c ∷ cs) ≡ behind_inside (200 - (turn + 1)) cs
one_more turn c cs low h =
    let e : 200 - turn ≡ suc (200 - (turn + 1)) = omega arith in
    ap (λ n. behind_inside n (c ∷ cs)) e ∙ rw h refl

pub no_more : (n : ℕ) (cs : List ℕ) → first_passes stands_in_string cs ≡ false → behind_inside n cs ≡ cs
no_more zero cs h = refl
no_more (suc n) [] h = refl
no_more (suc n) (c ∷ cs) h = rw h refl

pub shorter : (cs rest : List ℕ) (c : ℕ) → cs ≡ c ∷ rest → length rest < length cs
shorter cs rest c e = let sizes = ap length e in omega arith

pub all_turns : (cs : List ℕ) (turn : ℕ) → 200 ≤ turn → behind_inside (200 - turn) cs ≡ cs
all_turns cs turn h = let e : 200 - turn ≡ zero = omega arith in ap (λ n. behind_inside n cs) e
