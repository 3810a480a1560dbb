-- What a reader of the program answers, beside what the definition of its production finds.
use Rattle.std.specs.Prelude.{◌≡◌, ℕ, ⊤, List, ◌++◌, Result, Ok, Err}
use Rattle.std.specs.Borrow.{Bor}
use Rattle.cc_lex.specs.declared.token.Token.{Token}
use Rattle.cc_lex.specs.Lexemes.{placed_all}
use Rattle.cc_grammar.specs.Reading.{Found, Got, Wrong, High}
use Rattle.cc_parse.specs.declared.stop.Stop.{Stop}
use Rattle.cc_parse.specs.declared.stop.Stop.TheVariants as stops

-- The answer is what is found: the tree, as the view sees it, or the tokens from the refused one on. Want of memory
-- says nothing of the tokens.
abbrev pub Agrees : {A B : Type 0} → (A → B) → Result (A × ℕ × Bor (List Token)) Stop → Found B → Type 0
Agrees view (Ok read) found = found ≡ Got (view read.0) read.1 (placed_all read.2.now)
Agrees view (Err (stops.Wrong rest)) found = found ≡ Wrong (placed_all rest.now)
Agrees view (Err (stops.High rest)) found = found ≡ High (placed_all rest.now)
Agrees view (Err stops.NoMemory) found = ⊤

-- the list that is found, behind this one
abbrev pub behind : {A : Type 0} → List A → Found (List A) → Found (List A)
behind first (Got more spare rest) = Got (first ++ more) spare rest
behind first (Wrong rest) = Wrong rest
behind first (High rest) = High rest
