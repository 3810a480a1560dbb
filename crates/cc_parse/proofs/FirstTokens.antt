-- A list that is not empty, as the program takes its first off.
use Rattle.std.proofs.Common.{◌≡◌, ◌<◌, ◌≤◌, ◌-◌, List, [], ◌∷◌, length, get_or, take, drop, refl, sym, ap, arith}
use Rattle.std.proofs.lemmas.List.{take_rest}
use Rattle.cc_lex.specs.declared.token.Token.{Token}
use Rattle.cc_lex.specs.Lexemes.{placed_of, placed_all}

abbrev pub others : {A : Type 0} → List A → List A
others xs = take (length xs - 1) (drop 1 xs)

pub split_first : {A : Type 0} (xs : List A) (x : A) → 1 ≤ length xs → x ≡ get_or xs 0 x → xs ≡ x ∷ others xs
split_first [] x h e = absurd (omega arith)
split_first (y ∷ ys) x h e = simp (take_rest (y ∷ ys) 1) (ap (λ z. z ∷ ys) (sym e))

pub placed-split : (tokens : List Token) (token : Token) → 1 ≤ length tokens → token ≡ get_or tokens 0 token → placed_all tokens ≡ placed_of token ∷ placed_all (others tokens)
placed-split tokens token some first = ap placed_all (split_first tokens token some first)

pub placed-nothing : (tokens : List Token) → length tokens < 1 → placed_all tokens ≡ []
placed-nothing [] h = refl
placed-nothing (token ∷ tokens) h = absurd (omega arith)
