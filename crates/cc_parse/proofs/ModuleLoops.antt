-- The loops over imports and definitions: where they end, and what a turn of them reads.
use Rattle.std.proofs.Common.{◌≡◌, ℕ, zero, suc, ◌+◌, ◌<◌, ◌≤◌, true, false, List, [], ◌∷◌, length, refl, subst, arith}
use Rattle.cc_lex.specs.declared.token.Word.TheVariants as words
use Rattle.cc_lex.specs.declared.token.Token.{Token}
use Rattle.cc_lex.specs.Lexemes.{PlacedLexeme, placed_all}
use Rattle.cc_grammar.specs.Syntax.{DefSyntax}
use Rattle.cc_parse.specs.Agreement.{behind}
use Rattle.cc_grammar.specs.Tests.{begins_word}
use Rattle.cc_grammar.specs.Reading.{Got, Wrong, top_room, import_at, imports_at, def_at, defs_at, behind_first}
use Rattle.cc_parse.proofs.FoundLists.{then_more, behind-end}

pub imports-end : (steps : ℕ) (tokens : List PlacedLexeme) → begins_word words.Import tokens ≡ false → imports_at steps tokens ≡ Got [] top_room tokens
unfolding imports_at
imports-end steps [] h = refl
imports-end zero (token ∷ tokens) h = refl
imports-end (suc steps) (token ∷ tokens) h = rw (h, imports_at) refl

pub imports-out : (tokens : List PlacedLexeme) → imports_at 0 tokens ≡ Got [] top_room tokens
unfolding imports_at
imports-out [] = refl
imports-out (token ∷ tokens) = refl

pub imports-turn : (steps next : ℕ) (tokens : List PlacedLexeme) → steps ≡ next + 1 → begins_word words.Import tokens ≡ true → imports_at steps tokens ≡ then_more (import_at (behind_first tokens)) (imports_at next)
unfolding imports_at
imports-turn steps next [] e h = cc
imports-turn zero next (token ∷ tokens) e h = absurd (omega arith)
imports-turn (suc steps) next (token ∷ tokens) e h =
    let same : steps ≡ next = omega arith in
    subst (λ n. imports_at (suc steps) (token ∷ tokens) ≡ then_more (import_at tokens) (imports_at n)) same (rw (h, imports_at) refl)

pub defs-none : (steps : ℕ) (tokens : List PlacedLexeme) → begins_word words.Def tokens ≡ false → defs_at steps tokens ≡ defs_at 0 tokens
unfolding defs_at
defs-none steps [] h = refl
defs-none zero (token ∷ tokens) h = refl
defs-none (suc steps) (token ∷ tokens) h = rw (h, defs_at) refl

-- no steps are left, and no tokens or some
pub defs-empty : (defs : List DefSyntax) (tokens : List Token) → length tokens < 1 → behind defs (defs_at 0 (placed_all tokens)) ≡ Got defs top_room (placed_all tokens)
unfolding defs_at
defs-empty defs [] h = behind-end defs top_room []
defs-empty defs (token ∷ tokens) h = absurd (omega arith)

pub defs-left : (defs : List DefSyntax) (tokens : List Token) → 1 ≤ length tokens → behind defs (defs_at 0 (placed_all tokens)) ≡ Wrong (placed_all tokens)
unfolding defs_at
defs-left defs [] h = absurd (omega arith)
defs-left defs (token ∷ tokens) h = refl

pub defs-turn : (steps next : ℕ) (tokens : List PlacedLexeme) → steps ≡ next + 1 → begins_word words.Def tokens ≡ true → defs_at steps tokens ≡ then_more (def_at (behind_first tokens)) (defs_at next)
unfolding defs_at
defs-turn steps next [] e h = cc
defs-turn zero next (token ∷ tokens) e h = absurd (omega arith)
defs-turn (suc steps) next (token ∷ tokens) e h =
    let same : steps ≡ next = omega arith in
    subst (λ n. defs_at (suc steps) (token ∷ tokens) ≡ then_more (def_at tokens) (defs_at n)) same (rw (h, defs_at) refl)
