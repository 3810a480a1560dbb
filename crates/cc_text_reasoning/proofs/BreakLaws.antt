-- What is found as a break is one.
use Rattle.std.proofs.Common.{◌≡◌, ◌⊎◌, inl, inr, ◌==◌, ◌&&◌, ◌≤◌, ℕ, zero, suc, Bool, true, false, List, [], ◌∷◌, ◌++◌, length, IsTrue, refl, sym, ap, subst, ◌∙◌, arith}
use Rattle.std.specs.Prelude.{if◌then◌else◌}
use Rattle.std.specs.Char.{is_ascii_digit}
use Rattle.std.specs.List.{list_all}
use Rattle.cc_base.specs.Names.{first_passes}
use Rattle.cc_lex.specs.declared.form.Form.TheVariants as forms
use Rattle.cc_lex.specs.Forms.{stands_in_string}
use Rattle.cc_lex.specs.Lexical.{BeginsNothing, BeginsTooGreat}
use Rattle.cc_text_reasons.proofs.Breaks.{after, text_front}
use Rattle.cc_text_reasons.proofs.RefusedTexts.{told, breaks}
use Rattle.cc_text_reasons.specs.TextReasons.{AtCharacter, TooGreat, BreaksAt, too_great}
use Rattle.cc_text_reasoning.specs.Breaking.{next_of, behind_inside, breaking}
use Rattle.cc_text_reasoning.proofs.Reading.{no_more}

next_is : (cs : List ℕ) → next_of cs ≡ after cs
next_is [] = refl
next_is (c ∷ cs) = refl

inside_of : (n : ℕ) (text behind : List ℕ) → IsTrue (list_all stands_in_string text) → length text ≤ n
    → (length text ≡ n) ⊎ (first_passes stands_in_string behind ≡ false) → behind_inside n (text ++ behind) ≡ behind
inside_of zero [] behind all short ends = refl
inside_of (suc n) [] behind all short (inl full) = absurd (omega (arith, full))
inside_of (suc n) [] behind all short (inr none) = no_more (suc n) behind none
inside_of zero (c ∷ text) behind all short ends = absurd (omega (arith, short))
inside_of (suc n) (c ∷ text) behind all short ends =
    by (stands_in_string c) refl all (λ rest. inside_of n text behind rest (omega (arith, short)) fewer)
  where
    fewer : (length text ≡ n) ⊎ (first_passes stands_in_string behind ≡ false)
    fewer = elim ends [ inl full ↦ inl (omega (arith, full)) | inr none ↦ inr none ]

    by : (b : Bool) → stands_in_string c ≡ b → IsTrue (b && list_all stands_in_string text)
        → (IsTrue (list_all stands_in_string text) → behind_inside n (text ++ behind) ≡ behind)
        → (if b then behind_inside n (text ++ behind) else c ∷ (text ++ behind)) ≡ behind
    by true e rest more = more rest
    by false e rest more = cc

inside_is : (n : ℕ) (cs : List ℕ) → behind_inside n cs ≡ (text_front n cs).1
inside_is n cs = let it = text_front n cs in ap (behind_inside n) it.2 ∙ inside_of n it.0 it.1 it.3 it.4 it.5

no_digit : (c : ℕ) (cs : List ℕ) → BeginsNothing (c ∷ cs) → is_ascii_digit c ≡ true → ⊥
no_digit c cs nothing e = nothing.no_form (c ∷ []) cs refl (forms.Digits, (e, rw e refl))

first_digit : (c : ℕ) (cs : List ℕ) → BeginsTooGreat (c ∷ cs) → is_ascii_digit c ≡ true
first_digit c cs it = by it.cs it.too_great.0.0 it.front
  where
    by : (ds : List ℕ) → first_passes is_ascii_digit ds ≡ true → c ∷ cs ≡ ds ++ it.after → is_ascii_digit c ≡ true
    by [] h is = cc
    by (d ∷ ds) h is = first_is is ∙ h
      where
        first_is : c ∷ cs ≡ d ∷ (ds ++ it.after) → is_ascii_digit c ≡ is_ascii_digit d
        first_is e = cc

none_great : BeginsTooGreat [] → ⊥
none_great it = by it.cs it.too_great.0.0 it.front
  where
    by : (ds : List ℕ) → first_passes is_ascii_digit ds ≡ true → [] ≡ ds ++ it.after → ⊥
    by [] h is = cc
    by (d ∷ ds) h is = cc

pub breaking_is : (text : List ℕ) → BeginsNothing text ⊎ BeginsTooGreat text → BreaksAt text (breaking text)
unfolding breaking told
breaking_is [] (inl nothing) = absurd (omega (arith, nothing.some))
breaking_is [] (inr great) = absurd (none_great great)
breaking_is (c ∷ cs) (inl nothing) = by (is_ascii_digit c) refl
  where
    same : (if c == 34 then next_of (behind_inside 200 cs) else if c == 47 then next_of cs else AtCharacter c) ≡ told (c ∷ cs)
    same = rw (inside_is 200 cs, next_is cs, next_is (text_front 200 cs).1) refl

    by : (b : Bool) → is_ascii_digit c ≡ b → BreaksAt (c ∷ cs) (if b then TooGreat else if c == 34 then next_of (behind_inside 200 cs) else if c == 47 then next_of cs else AtCharacter c)
    by true e = absurd (no_digit c cs nothing e)
    by false e = subst (BreaksAt (c ∷ cs)) (sym same) (breaks (c ∷ cs) nothing)
breaking_is (c ∷ cs) (inr great) = let e = first_digit c cs great in rw e (too_great great)
