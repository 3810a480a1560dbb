-- A token that is pushed is tried behind the others, and popped it leaves them as they were.
use Rattle.std.proofs.Common.{◌≡◌, ◌∙◌, ℕ, ◌+◌, Bool, List, [], ◌∷◌, ◌++◌, Option, Some, None, refl, ap, arith}
use Rattle.std.specs.Prelude.{MatchOption, option_to_list}
use Rattle.std.proofs.lemmas.List.{map-append}
use Rattle.cc_base.specs.declared.place.Place.{Place}
use Rattle.cc_lex.specs.declared.token.Token.{Token}
use Rattle.cc_lex.specs.Lexemes.{Lexeme, placed_of, placed_all}
use Rattle.cc_grammar.specs.Reading.{reading_of}
use Rattle.cc_parse.specs.Answers.{refusal_of}
use Rattle.cc_wanted.specs.Trying.{end_tried, tried, passes, goes_on}

same-fronts : {A : Type 0} (a b : List A) (x y : A) → a ++ x ∷ [] ≡ b ++ y ∷ [] → b ≡ a
same-fronts [] [] x y e = refl
same-fronts [] (v ∷ []) x y e = let f : x ∷ [] ≡ v ∷ y ∷ [] = e in cc
same-fronts [] (v ∷ w ∷ b) x y e = let f : x ∷ [] ≡ v ∷ w ∷ (b ++ y ∷ []) = e in cc
same-fronts (v ∷ []) [] x y e = let f : v ∷ x ∷ [] ≡ y ∷ [] = e in cc
same-fronts (v ∷ w ∷ a) [] x y e = let f : v ∷ w ∷ (a ++ x ∷ []) ≡ y ∷ [] = e in cc
same-fronts (v ∷ a) (w ∷ b) x y e = let f : v ∷ (a ++ x ∷ []) ≡ w ∷ (b ++ y ∷ []) = e in let g : b ≡ a = same-fronts a b x y (cc) in let h : v ≡ w = cc in cc

pub popped_again : {A : Type 0} (old popped : List A) (x : A) (o : Option A) (n m k : ℕ) → old ++ x ∷ [] ≡ popped ++ option_to_list o → n ≡ m + 1 → MatchOption o ((n ≡ 0) × (k ≡ 0)) (λ _. k + 1 ≡ n) → popped ≡ old
popped_again old popped x None n m k e f g = absurd (omega (arith, f, g.0))
popped_again old popped x (Some y) n m k e f g = same-fronts old popped x y e

pub pushed_tells : (old pushed : List Token) (t : Token) (l : Lexeme) (end : Place) (answer : Bool) → answer ≡ passes (refusal_of (reading_of (placed_all pushed) end)) → pushed ≡ old ++ t ∷ [] → placed_of t ≡ tried l → end ≡ end_tried → answer ≡ goes_on (placed_all old) l
unfolding goes_on
pushed_tells old pushed t l end answer e f g h =
    let all : placed_all pushed ≡ placed_all old ++ tried l ∷ [] = ap placed_all f ∙ map-append placed_of old (t ∷ []) ∙ ap (λ x. placed_all old ++ x ∷ []) g in
    e ∙ ap (λ x. passes (refusal_of (reading_of x end))) all ∙ ap (λ x. passes (refusal_of (reading_of (placed_all old ++ tried l ∷ []) x))) h
