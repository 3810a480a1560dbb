-- What the readers of imports, definitions and modules find is so.
use Rattle.std.proofs.Common.{◌≡◌, ◌∙◌, ℕ, zero, suc, ◌≤◌, max, Bool, true, false, List, [], ◌∷◌, ◌++◌, length, refl, sym, ap, subst, append_assoc, arith, if◌then◌else◌}
use Rattle.std.specs.List.{flat_map}
use Rattle.std.proofs.lemmas.List.{append-nil}
use Rattle.cc_lex.specs.declared.token.Word.TheVariants as words
use Rattle.cc_lex.specs.declared.token.Symbol.TheVariants as symbols
use Rattle.cc_lex.specs.Lexemes.{PlacedLexeme}
use Rattle.cc_grammar.specs.Syntax.{ImportSyntax, DefSyntax, ModuleSyntax, written_height, expr_height}
use Rattle.cc_grammar.specs.Grammar.{Terminal, word, symbol, named, standing_at, Spell, written_terminals, expr_terminals, import_terminals, def_terminals, module_terminals, IsDef, AreDefs}
use Rattle.cc_grammar.specs.Tests.{is_word, begins_word}
use Rattle.cc_grammar.specs.Reading.{Found, Got, Wrong, High, Reader, ◌>>=◌, Parts, pieces_at, part_at, top_room, import_pieces, import_tree, import_at, imports_at, DefRule, PlainRule, OwnRule, def_pieces, def_tree, def_rule_at, def_at, defs_at, module_at}
use Rattle.cc_grammar.proofs.Spelling.{word-is, spell-append}
use Rattle.cc_grammar.proofs.Sure.{Language, BeginsIn, BeginsSome, SureAt}
use Rattle.cc_grammar.proofs.PieceLanguages.{parts_language, parts_terminals, parts_height, AreParts, AreFair}
use Rattle.cc_grammar.proofs.SurePieces.{pieces_at-sure}
use Rattle.cc_grammar.proofs.SureShapes.{Behind, behind-then, behind-made}
use Rattle.cc_grammar.proofs.SureExprs.{part_at-sure}

-- what was found of these tokens, where the room is no more than a limit
abbrev pub SureIn : {A : Type 0} → Language A → (room : ℕ) (ts : List PlacedLexeme) → Found A → Type 0
SureIn l room ts (Got v s rest) = (front : List PlacedLexeme) × (ts ≡ front ++ rest) × l.spells v front × (l.height v ≤ room)
SureIn l room ts (Wrong rest) = (front : List PlacedLexeme) × (ts ≡ front ++ rest) × BeginsIn l room front
SureIn l room ts (High rest) =
    (front : List PlacedLexeme) × (bad : PlacedLexeme) × (after : List PlacedLexeme) × (rest ≡ bad ∷ after) × (ts ≡ front ++ rest) × BeginsIn l room front × BeginsSome l (front ++ bad ∷ [])

longer : (ts front rest more behind : List PlacedLexeme) → ts ≡ front ++ rest → rest ≡ more ++ behind → ts ≡ (front ++ more) ++ behind
longer ts front rest more behind e f = e ∙ ap (λ x. front ++ x) f ∙ sym (append_assoc front more behind)

-- a value made of one that is within its room
made-in : {A B : Type 0} (la : Language A) (lb : Language B) (f : A → B) (room top : ℕ) → ((a : A) (xs : List PlacedLexeme) → la.spells a xs → lb.spells (f a) xs) → ((a : A) → lb.height (f a) ≡ la.height a) → (ts : List PlacedLexeme) (found : Found A) → SureAt la room top [] ts found → SureIn lb room ts (found >>= λ v s rest. Got (f v) s rest)
made-in la lb f room top lift heights ts (Got v s rest) (front, e, sp, sc, sr) = (front, e, lift v front sp, rw heights (omega arith))
made-in la lb f room top lift heights ts (Wrong rest) (front, e, (v, more, h, sp)) = (front, e, (f v, more, rw heights h, lift v (front ++ more) sp))
made-in la lb f room top lift heights ts (High rest) (front, bad, after, g, e, (v, more, h, sp), (w, zs, sq)) =
    (front, bad, after, g, e, (f v, more, rw heights h, lift v (front ++ more) sp), (f w, zs, lift w (front ++ bad ∷ [] ++ zs) sq))

-- one value and then others
then-in : {A B C : Type 0} (la : Language A) (lb : Language B) (lc : Language C) (pair : A → B → C) (room : ℕ) → ((a : A) (b : B) (xs ys : List PlacedLexeme) → la.spells a xs → lb.spells b ys → lc.spells (pair a b) (xs ++ ys)) → ((a : A) (b : B) → lc.height (pair a b) ≡ max (la.height a) (lb.height b)) → (none : B) → lb.spells none [] → lb.height none ≡ 0 → (ts : List PlacedLexeme) (found : Found A) (next : A → ℕ → Reader B) → SureIn la room ts found → ((v : A) (s : ℕ) (rest : List PlacedLexeme) → SureIn lb room rest (next v s rest)) → SureIn lc room ts (found >>= λ v s rest. next v s rest >>= λ w less behind. Got (pair v w) less behind)
then-in {A} {B} {C} la lb lc pair room join heights none spelled flat ts (Got v s rest) next (front, e, sp, sr) second = go (next v s rest) (second v s rest)
  where
    joined : (w : B) (xs ys : List PlacedLexeme) → lb.spells w (xs ++ ys) → lc.spells (pair v w) (front ++ xs ++ ys)
    joined w xs ys h = rw append_assoc (join v w front (xs ++ ys) sp h)

    go : (f : Found B) → SureIn lb room rest f → SureIn lc room ts (f >>= λ w less behind. Got (pair v w) less behind)
    go (Got w less behind) (more, f, sq, lr) = (front ++ more, longer ts front rest more behind e f, join v w front more sp sq, rw heights (omega arith))
    go (Wrong behind) (more, f, (w, ys, h, sq)) = (front ++ more, longer ts front rest more behind e f, (pair v w, ys, rw heights (omega arith), joined w more ys sq))
    go (High behind) (more, bad, after, g, f, (w, ys, h, sq), (x, zs, sr')) =
        (front ++ more, bad, after, g, longer ts front rest more behind e f, (pair v w, ys, rw heights (omega arith), joined w more ys sq), (pair v x, zs, subst (λ y. lc.spells (pair v x) (y ++ zs)) (sym (append_assoc front more (bad ∷ []))) (joined x (more ++ bad ∷ []) zs sr')))
then-in la lb lc pair room join heights none spelled flat ts (Wrong rest) next (front, e, (v, more, h, sp)) second =
    (front, e, (pair v none, more, rw heights (omega arith), subst (lc.spells (pair v none)) (append-nil (front ++ more)) (join v none (front ++ more) [] sp spelled)))
then-in la lb lc pair room join heights none spelled flat ts (High rest) next (front, bad, after, g, e, (v, more, h, sp), (w, zs, sq)) second =
    (front, bad, after, g, e, (pair v none, more, rw heights (omega arith), subst (lc.spells (pair v none)) (append-nil (front ++ more)) (join v none (front ++ more) [] sp spelled)), (pair w none, zs, subst (lc.spells (pair w none)) (append-nil (front ++ bad ∷ [] ++ zs)) (join w none (front ++ bad ∷ [] ++ zs) [] sq spelled)))

-- the language of what is behind a token
abbrev behind_token : {A : Type 0} → PlacedLexeme → Language A → Language A
behind_token t l = record { spells = λ v ts. l.spells v (t ∷ ts); height = l.height }

shift-in : {A : Type 0} (l : Language A) (room : ℕ) (t : PlacedLexeme) (ts : List PlacedLexeme) (found : Found A) → SureIn (behind_token t l) room ts found → SureIn l room (t ∷ ts) found
shift-in l room t ts (Got v s rest) (front, e, sp, sr) = (t ∷ front, ap (λ x. t ∷ x) e, sp, sr)
shift-in l room t ts (Wrong rest) (front, e, b) = (t ∷ front, ap (λ x. t ∷ x) e, b)
shift-in l room t ts (High rest) (front, bad, after, g, e, b, c) = (t ∷ front, bad, after, g, ap (λ x. t ∷ x) e, b, c)

via-in : {A : Type 0} (l : Language A) (room : ℕ) (ts : List PlacedLexeme) (a b : Found A) → a ≡ b → SureIn l room ts b → SureIn l room ts a
via-in l room ts a b e h = subst (SureIn l room ts) (sym e) h

-- IMPORTS

-- behind `import`
abbrev pub import_behind : ImportSyntax → List Terminal
import_behind it = standing_at it.at (named it.source ∷ []) ++ symbol symbols.Dot ∷ standing_at it.name_at (named it.name ∷ [])

abbrev pub import_language : Language ImportSyntax
import_language = record { spells = λ v ts. Spell ts (import_behind v); height = λ v. 0 }

abbrev pub imports_language : Language (List ImportSyntax)
imports_language = record { spells = λ v ts. Spell ts (flat_map import_terminals v); height = λ v. 0 }

import_at-in : (ts : List PlacedLexeme) → SureIn import_language 100 ts (import_at ts)
unfolding import_at
import_at-in ts =
    made-in (parts_language import_pieces) import_language import_tree 100 99 (λ a xs h. h.1) (λ a. omega arith) ts (pieces_at (part_at 99) import_pieces 99 ts)
    (pieces_at-sure (part_at 99) 99 (part_at-sure 99) import_pieces (tt, (tt, (tt, tt))) 99 (omega arith) ts)

imports_at-in : (steps : ℕ) (ts : List PlacedLexeme) → SureIn imports_language 100 ts (imports_at steps ts)
unfolding imports_at
imports_at-in zero [] = ([], refl, tt, omega arith)
imports_at-in zero (t ∷ ts) = ([], refl, tt, omega arith)
imports_at-in (suc steps) [] = ([], refl, tt, omega arith)
imports_at-in (suc steps) (t ∷ ts) = go (is_word words.Import t.lexeme) refl (imports_at-in steps)
  where
    go : (b : Bool) → is_word words.Import t.lexeme ≡ b → ((us : List PlacedLexeme) → SureIn imports_language 100 us (imports_at steps us)) → SureIn imports_language 100 (t ∷ ts) (imports_at (suc steps) (t ∷ ts))
    go false e more = via-in imports_language 100 (t ∷ ts) (imports_at (suc steps) (t ∷ ts)) (Got [] top_room (t ∷ ts)) (rw e refl) ([], refl, tt, omega arith)
    go true e more =
        via-in imports_language 100 (t ∷ ts) (imports_at (suc steps) (t ∷ ts)) (import_at ts >>= λ first spare rest. imports_at steps rest >>= λ more left behind. Got (first ∷ more) left behind) (rw e refl)
        (shift-in imports_language 100 t ts (import_at ts >>= λ first spare rest. imports_at steps rest >>= λ more left behind. Got (first ∷ more) left behind)
        (then-in import_language imports_language (behind_token t imports_language) (λ v vs. v ∷ vs) 100
        (λ a b xs ys h k. (word-is words.Import t.lexeme e, tt, spell-append xs ys (import_behind a) (flat_map import_terminals b) h k))
        (λ a b. omega arith) [] tt refl ts (import_at ts) (λ v s rest. imports_at steps rest) (import_at-in ts) (λ v s rest. more rest)))

-- DEFINITIONS

-- behind `def`
abbrev pub def_behind : DefSyntax → List Terminal
def_behind def = (if def.own then word words.Rec ∷ [] else []) ++ standing_at def.name_at (named def.name ∷ []) ++ written_terminals def.written ++ symbol symbols.Equals ∷ expr_terminals def.right

abbrev pub def_height : DefSyntax → ℕ
def_height def = max (written_height def.written) (expr_height def.right)

abbrev pub defs_height : List DefSyntax → ℕ
defs_height [] = 0
defs_height (def ∷ defs) = max (def_height def) (defs_height defs)

abbrev pub def_language : Language DefSyntax
def_language = record { spells = λ v ts. IsDef v × Spell ts (def_behind v); height = def_height }

abbrev pub defs_language : Language (List DefSyntax)
defs_language = record { spells = λ v ts. AreDefs v × Spell ts (flat_map def_terminals v); height = defs_height }

pub def-terminals : (rule : DefRule) (p : Parts (def_pieces rule)) → def_behind (def_tree rule p) ≡ parts_terminals (def_pieces rule) p
def-terminals PlainRule (name, (written, (equals, (right, end)))) = rw append-nil refl
def-terminals OwnRule (rec', (name, (colon, (written, (equals, (right, end)))))) = rw append-nil refl

pub def-height : (rule : DefRule) (p : Parts (def_pieces rule)) → def_height (def_tree rule p) ≡ parts_height (def_pieces rule) p
def-height PlainRule (name, (written, (equals, (right, end)))) = omega arith
def-height OwnRule (rec', (name, (colon, (written, (equals, (right, end)))))) = omega arith

def-made : (rule : DefRule) (p : Parts (def_pieces rule)) → AreParts (def_pieces rule) p → IsDef (def_tree rule p)
def-made PlainRule (name, (written, (equals, (right, end)))) (a, (b, (c, ((d, l), e)))) = (b, d, tt)
def-made OwnRule (rec', (name, (colon, (written, (equals, (right, end)))))) (a, (b, (c, (d, (e, ((f, l), g)))))) = (d, f, tt)

def-fair : (rule : DefRule) → AreFair (def_pieces rule)
def-fair PlainRule = (tt, (tt, (tt, (omega arith, tt))))
def-fair OwnRule = (tt, (tt, (tt, (tt, (tt, (omega arith, tt))))))

def_rule_at-in : (rule : DefRule) (ts : List PlacedLexeme) → SureIn def_language 100 ts (def_rule_at rule ts)
unfolding def_rule_at
def_rule_at-in rule ts =
    made-in (parts_language (def_pieces rule)) def_language (def_tree rule) 100 99 (λ a xs h. (def-made rule a h.0, subst (Spell xs) (sym (def-terminals rule a)) h.1)) (def-height rule) ts (pieces_at (part_at 99) (def_pieces rule) 99 ts)
    (pieces_at-sure (part_at 99) 99 (part_at-sure 99) (def_pieces rule) (def-fair rule) 99 (omega arith) ts)

def_at-in : (ts : List PlacedLexeme) → SureIn def_language 100 ts (def_at ts)
unfolding def_at
def_at-in ts = go (begins_word words.Rec ts)
  where
    go : (b : Bool) → SureIn def_language 100 ts (if b then def_rule_at OwnRule ts else def_rule_at PlainRule ts)
    go true = def_rule_at-in OwnRule ts
    go false = def_rule_at-in PlainRule ts

defs_at-in : (steps : ℕ) (ts : List PlacedLexeme) → SureIn defs_language 100 ts (defs_at steps ts)
unfolding defs_at
defs_at-in zero [] = ([], refl, (tt, tt), omega arith)
defs_at-in zero (t ∷ ts) = ([], refl, ([], [], omega arith, (tt, tt)))
defs_at-in (suc steps) [] = ([], refl, (tt, tt), omega arith)
defs_at-in (suc steps) (t ∷ ts) = go (is_word words.Def t.lexeme) refl (defs_at-in steps)
  where
    go : (b : Bool) → is_word words.Def t.lexeme ≡ b → ((us : List PlacedLexeme) → SureIn defs_language 100 us (defs_at steps us)) → SureIn defs_language 100 (t ∷ ts) (defs_at (suc steps) (t ∷ ts))
    go false e more = via-in defs_language 100 (t ∷ ts) (defs_at (suc steps) (t ∷ ts)) (Wrong (t ∷ ts)) (rw e refl) ([], refl, ([], [], omega arith, (tt, tt)))
    go true e more =
        via-in defs_language 100 (t ∷ ts) (defs_at (suc steps) (t ∷ ts)) (def_at ts >>= λ first spare rest. defs_at steps rest >>= λ more left behind. Got (first ∷ more) left behind) (rw e refl)
        (shift-in defs_language 100 t ts (def_at ts >>= λ first spare rest. defs_at steps rest >>= λ more left behind. Got (first ∷ more) left behind)
        (then-in def_language defs_language (behind_token t defs_language) (λ v vs. v ∷ vs) 100
        (λ a b xs ys h k. ((h.0, k.0), (word-is words.Def t.lexeme e, tt, spell-append xs ys (def_behind a) (flat_map def_terminals b) h.1 k.1)))
        (λ a b. omega arith) [] (tt, tt) refl ts (def_at ts) (λ v s rest. defs_at steps rest) (def_at-in ts) (λ v s rest. more rest)))

-- the definitions go on to the end
pub defs_at-ends : (steps : ℕ) (ts : List PlacedLexeme) → Behind (λ v rest. rest ≡ []) (defs_at steps ts)
unfolding defs_at
defs_at-ends zero [] = refl
defs_at-ends zero (t ∷ ts) = tt
defs_at-ends (suc steps) [] = refl
defs_at-ends (suc steps) (t ∷ ts) = go (is_word words.Def t.lexeme) (defs_at-ends steps)
  where
    go : (b : Bool) → ((us : List PlacedLexeme) → Behind (λ v rest. rest ≡ []) (defs_at steps us)) → Behind (λ v rest. rest ≡ []) (if b then (def_at ts >>= λ first spare rest. defs_at steps rest >>= λ more left behind. Got (first ∷ more) left behind) else Wrong (t ∷ ts))
    go true more = behind-then (λ v rest. rest ≡ []) (def_at ts) (λ first spare rest. defs_at steps rest >>= λ more left behind. Got (first ∷ more) left behind) (λ first s rest. behind-made (λ v rest. rest ≡ []) (λ v rest. rest ≡ []) (λ v left. left) (λ vs. first ∷ vs) (λ v r h. h) (defs_at steps rest) (more rest))
    go false more = tt

-- MODULES

abbrev pub module_language : Language ModuleSyntax
module_language = record { spells = λ v ts. AreDefs v.defs × Spell ts (module_terminals v); height = λ v. defs_height v.defs }

pub module_at-in : (ts : List PlacedLexeme) → SureIn module_language 100 ts (module_at ts)
unfolding module_at
module_at-in ts =
    then-in imports_language defs_language module_language (λ imports defs. record { imports = imports; defs = defs }) 100
    (λ a b xs ys h k. (k.0, spell-append xs ys (flat_map import_terminals a) (flat_map def_terminals b) h k.1)) (λ a b. omega arith) [] (tt, tt) refl ts
    (imports_at (length ts) ts) (λ v s rest. defs_at (length rest) rest) (imports_at-in (length ts) ts) (λ v s rest. defs_at-in (length rest) rest)

pub module_at-ends : (ts : List PlacedLexeme) → Behind (λ v rest. rest ≡ []) (module_at ts)
unfolding module_at
module_at-ends ts =
    behind-then (λ v rest. rest ≡ []) (imports_at (length ts) ts) (λ imports spare rest. defs_at (length rest) rest >>= λ defs left behind. Got (record { imports = imports; defs = defs }) left behind)
    (λ imports s rest. behind-made (λ v rest. rest ≡ []) (λ v rest. rest ≡ []) (λ v left. left) (λ defs. record { imports = imports; defs = defs }) (λ v r h. h) (defs_at (length rest) rest) (defs_at-ends (length rest) rest))
