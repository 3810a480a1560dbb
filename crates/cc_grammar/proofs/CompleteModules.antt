-- On the tokens of a module its reader gives it, or has no room for it; and no two modules have the same tokens.
use Rattle.std.proofs.Common.{◌≡◌, ◌∙◌, ◌⊎◌, inl, inr, ℕ, zero, suc, ◌+◌, ◌-◌, ◌<◌, ◌≤◌, min, max, Bool, true, false, nat_le, List, [], ◌∷◌, ◌++◌, length, Option, Some, None, refl, sym, ap, subst, append_assoc, length-append, arith, if◌then◌else◌}
use Rattle.std.specs.List.{flat_map}
use Rattle.std.proofs.lemmas.Bool.Decides.{leb_tells}
use Rattle.cc_base.specs.declared.place.Place.{Place}
use Rattle.cc_lex.specs.declared.token.Word.TheVariants as words
use Rattle.cc_lex.specs.Lexemes.{WordLexeme, PlacedLexeme}
use Rattle.cc_grammar.specs.Syntax.{TypeSyntax, ExprSyntax, ImportSyntax, DefSyntax, ModuleSyntax}
use Rattle.cc_grammar.specs.Grammar.{Spell, import_terminals, def_terminals, IsDef, AreDefs, IsModule}
use Rattle.cc_grammar.specs.Tests.{is_word, begins_word}
use Rattle.cc_grammar.specs.Reading.{Found, Got, Wrong, High, Reader, ◌>>=◌, Parts, pieces_at, part_at, top_room, import_pieces, import_at, imports_at, DefRule, PlainRule, OwnRule, def_pieces, def_tree, def_rule_at, def_at, defs_at, module_at}
use Rattle.cc_grammar.proofs.Spelling.{is_word-same, Split, spell-split}
use Rattle.cc_grammar.proofs.PieceLanguages.{parts_height}
use Rattle.cc_grammar.proofs.Complete.{IsHigh, high-then, Loose, IsSane, LastStops, sane-stops, AllRead, pieces-read}
use Rattle.cc_grammar.proofs.CompleteShapes.{type-read}
use Rattle.cc_grammar.proofs.CompleteExprs.{any, stop_equals, written-reads, expr-read}
use Rattle.cc_grammar.proofs.SureModules.{import_behind, def_behind, def_height, defs_height, def-terminals, def-height}

-- READERS IN ANY ROOM

def_rule_in : ℕ → DefRule → Reader DefSyntax
def_rule_in n rule tokens = pieces_at (part_at n) (def_pieces rule) n tokens >>= λ values spare rest. Got (def_tree rule values) spare rest

def_in : ℕ → Reader DefSyntax
def_in n tokens = if begins_word words.Rec tokens then def_rule_in n OwnRule tokens else def_rule_in n PlainRule tokens

pub defs_in : ℕ → ℕ → Reader (List DefSyntax)
defs_in n steps [] = Got [] top_room []
defs_in n zero (token ∷ tokens) = Wrong (token ∷ tokens)
defs_in n (suc steps) (token ∷ tokens) =
    if is_word words.Def token.lexeme
    then (def_in n tokens >>= λ first spare rest. defs_in n steps rest >>= λ more left behind. Got (first ∷ more) left behind)
    else Wrong (token ∷ tokens)

pub module_in : ℕ → Reader ModuleSyntax
module_in n tokens =
    imports_at (length tokens) tokens >>= λ imports spare rest.
    defs_in n (length rest) rest >>= λ defs left behind. Got (record { imports = imports; defs = defs }) left behind

def-same : (ts : List PlacedLexeme) → def_in 99 ts ≡ def_at ts
unfolding def_in def_at def_rule_in def_rule_at
def-same ts = refl

defs-same : (steps : ℕ) (ts : List PlacedLexeme) → defs_in 99 steps ts ≡ defs_at steps ts
unfolding defs_in defs_at
defs-same zero [] = refl
defs-same zero (t ∷ ts) = refl
defs-same (suc steps) [] = refl
defs-same (suc steps) (t ∷ ts) = rw (def-same ts) (ap (λ f. if is_word words.Def t.lexeme then f else Wrong (t ∷ ts)) (go (def_at ts) (defs-same steps)))
  where
    go : (found : Found DefSyntax) → ((us : List PlacedLexeme) → defs_in 99 steps us ≡ defs_at steps us) → (found >>= λ first spare rest. defs_in 99 steps rest >>= λ more left behind. Got (first ∷ more) left behind) ≡ (found >>= λ first spare rest. defs_at steps rest >>= λ more left behind. Got (first ∷ more) left behind)
    go (Got first s rest) same = rw (same rest) refl
    go (Wrong rest) same = refl
    go (High rest) same = refl

-- the definitions behind the imports
abbrev finish : (ℕ → Reader (List DefSyntax)) → List ImportSyntax → ℕ → Reader ModuleSyntax
finish read imports spare rest = read (length rest) rest >>= λ defs left behind. Got (record { imports = imports; defs = defs }) left behind

pub module-same : (ts : List PlacedLexeme) → module_in 99 ts ≡ module_at ts
unfolding module_in module_at
module-same ts = go (imports_at (length ts) ts)
  where
    go : (found : Found (List ImportSyntax)) → (found >>= finish (defs_in 99)) ≡ (found >>= finish defs_at)
    go (Got imports s rest) = rw (defs-same (length rest) rest) refl
    go (Wrong rest) = refl
    go (High rest) = refl

-- what is read, or is too high
pub record Settles {A : Type 0} (height n : ℕ) (found : Found A) (v : A) (rest : List PlacedLexeme) : Type 0 where
  pub low : height ≤ suc n → (s : ℕ) × (found ≡ Got v s rest)
  pub high : suc n < height → IsHigh found

-- IMPORTS

import-read : (it : ImportSyntax) (ts rest : List PlacedLexeme) → Spell ts (import_behind it) → import_at (ts ++ rest) ≡ Got it 99 rest
unfolding import_at
import-read it ts rest h =
    let p : Parts import_pieces = ((it.at, it.source), (tt, ((it.name_at, it.name), tt))) in
    let b = pieces-read import_pieces p (tt, (tt, (tt, tt))) 99 99 (omega arith) ts rest h (sane-stops import_pieces p rest (tt, (tt, tt)) tt) in
    rw (b.low (omega arith)) refl

pub imports-read : (imports : List ImportSyntax) (steps : ℕ) (ts rest : List PlacedLexeme) → Spell ts (flat_map import_terminals imports) → begins_word words.Import rest ≡ false → length (ts ++ rest) ≤ steps → imports_at steps (ts ++ rest) ≡ Got imports 99 rest
unfolding imports_at
imports-read [] steps [] [] h none enough = refl
imports-read [] zero [] (u ∷ rest) h none enough = refl
imports-read [] (suc steps) [] (u ∷ rest) h none enough = rw none refl
imports-read [] steps (t ∷ ts) rest h none enough = absurd h
imports-read (it ∷ imports) steps [] rest h none enough = absurd h
imports-read (it ∷ imports) zero (t ∷ ts) rest h none enough = absurd (omega arith)
imports-read (it ∷ imports) (suc steps) (t ∷ ts) rest (l, p, h) none enough =
    let split = spell-split (import_behind it) (flat_map import_terminals imports) ts h in
    let whole : ts ++ rest ≡ split.front ++ (split.back ++ rest) = ap (λ x. x ++ rest) split.whole ∙ append_assoc split.front split.back rest in
    let size : length (ts ++ rest) ≡ length split.front + length (split.back ++ rest) = ap length whole ∙ length-append split.front (split.back ++ rest) in
    let more : imports_at steps (split.back ++ rest) ≡ Got imports 99 rest = imports-read imports steps split.back rest split.second none (omega arith) in
    rw (is_word-same words.Import t.lexeme l) (rw whole (rw (import-read it split.front (split.back ++ rest) split.first) (rw more refl)))

-- DEFINITIONS

-- definitions, or nothing, follow
pub loose-defs : (defs : List DefSyntax) (ts : List PlacedLexeme) → Spell ts (flat_map def_terminals defs) → (k : ℕ) → Loose k ts
loose-defs [] [] h k link e = let f : None ≡ Some link = e in cc
loose-defs [] (t ∷ ts) h k link e = absurd h
loose-defs (d ∷ defs) [] h k link e = absurd h
loose-defs (d ∷ defs) (t ∷ ts) (l, p, h) k link e = let f : None ≡ Some link = rw l at e in cc

no-import : (defs : List DefSyntax) (ts : List PlacedLexeme) → Spell ts (flat_map def_terminals defs) → begins_word words.Import ts ≡ false
no-import [] [] h = refl
no-import [] (t ∷ ts) h = absurd h
no-import (d ∷ defs) [] h = absurd h
no-import (d ∷ defs) (t ∷ ts) (l, p, h) = rw l refl

def_rule-read : (rule : DefRule) (p : Parts (def_pieces rule)) → AllRead (def_pieces rule) p → IsSane (def_pieces rule) → (n : ℕ) (ts rest : List PlacedLexeme) → LastStops (def_pieces rule) p rest → Spell ts (def_behind (def_tree rule p)) → Settles (def_height (def_tree rule p)) n (def_rule_in n rule (ts ++ rest)) (def_tree rule p) rest
unfolding def_rule_in
def_rule-read rule p reads sane n ts rest last h =
    let b = pieces-read (def_pieces rule) p reads n n (omega arith) ts rest (subst (Spell ts) (def-terminals rule p) h) (sane-stops (def_pieces rule) p rest sane last) in
    let height = def-height rule p in
    record {
      low = λ small. (min n (suc n - parts_height (def_pieces rule) p), rw (b.low (omega arith)) refl);
      high = λ great. high-then (pieces_at (part_at n) (def_pieces rule) n (ts ++ rest)) _ (b.high (omega arith));
    }

def-read : (own : Bool) (name : List ℕ) (at : Place) (written : Option TypeSyntax) (right : ExprSyntax) → IsDef (record { own = own; name = name; name_at = at; written = written; right = right }) → (n : ℕ) (ts rest : List PlacedLexeme) → Loose 0 rest → Spell ts (def_behind (record { own = own; name = name; name_at = at; written = written; right = right })) → Settles (def_height (record { own = own; name = name; name_at = at; written = written; right = right })) n (def_in n (ts ++ rest)) (record { own = own; name = name; name_at = at; written = written; right = right }) rest
unfolding def_in
def-read true name at None right is n ts rest loose h = absurd is.2
def-read true name at (Some written) right is n [] rest loose h = absurd h
def-read true name at (Some written) right is n (t ∷ ts) rest loose h =
    let first : is_word words.Rec t.lexeme ≡ true = is_word-same words.Rec t.lexeme h.0 in
    subst (λ f. Settles (def_height (record { own = true; name = name; name_at = at; written = Some written; right = right })) n f (record { own = true; name = name; name_at = at; written = Some written; right = right }) rest) (sym (ap (λ b. if b then def_rule_in n OwnRule (t ∷ (ts ++ rest)) else def_rule_in n PlainRule (t ∷ (ts ++ rest))) first))
    (def_rule-read OwnRule (tt, ((at, name), (tt, (written, (tt, (right, tt)))))) (tt, (tt, (tt, (type-read written is.0, (tt, (any right (expr-read right is.1), tt)))))) (tt, (tt, (tt, (stop_equals, (tt, tt))))) n (t ∷ ts) rest loose h)
def-read false name at written right is n [] rest loose h = absurd h
def-read false name at written right is n (t ∷ ts) rest loose h =
    let first : is_word words.Rec t.lexeme ≡ false = rw h.0 refl in
    subst (λ f. Settles (def_height (record { own = false; name = name; name_at = at; written = written; right = right })) n f (record { own = false; name = name; name_at = at; written = written; right = right }) rest) (sym (ap (λ b. if b then def_rule_in n OwnRule (t ∷ (ts ++ rest)) else def_rule_in n PlainRule (t ∷ (ts ++ rest))) first))
    (def_rule-read PlainRule ((at, name), (written, (tt, (right, tt)))) (tt, (written-reads written is.0, (tt, (any right (expr-read right is.1), tt)))) (tt, (stop_equals, (tt, tt))) n (t ∷ ts) rest loose h)

defs-cons : (d : DefSyntax) (defs : List DefSyntax) → IsDef d → (n steps : ℕ) (t : PlacedLexeme) (ts : List PlacedLexeme) → t.lexeme ≡ WordLexeme words.Def → Spell ts (def_behind d ++ flat_map def_terminals defs) → length ts ≤ steps → ((back : List PlacedLexeme) → Spell back (flat_map def_terminals defs) → length back ≤ steps → Settles (defs_height defs) n (defs_in n steps back) defs []) → Settles (max (def_height d) (defs_height defs)) n (defs_in n (suc steps) (t ∷ ts)) (d ∷ defs) []
unfolding defs_in
defs-cons d defs is n steps t ts l h enough ih =
    subst (λ f. Settles (max (def_height d) (defs_height defs)) n f (d ∷ defs) []) (sym here) (record {
      low = λ small. ((more.low (omega arith)).0, rw ((first.low (omega arith)).1) (rw ((more.low (omega arith)).1) refl));
      high = λ great. go great (leb_tells (def_height d) (suc n));
    })
  where
    split : Split ts (def_behind d) (flat_map def_terminals defs)
    split = spell-split (def_behind d) (flat_map def_terminals defs) ts h

    size : length ts ≡ length split.front + length split.back
    size = ap length split.whole ∙ length-append split.front split.back

    rest_found : Found DefSyntax → Found (List DefSyntax)
    rest_found found = found >>= λ first spare rest. defs_in n steps rest >>= λ more left behind. Got (first ∷ more) left behind

    here : defs_in n (suc steps) (t ∷ ts) ≡ rest_found (def_in n (split.front ++ split.back))
    here = rw (is_word-same words.Def t.lexeme l) (ap (λ x. rest_found (def_in n x)) split.whole)

    first : Settles (def_height d) n (def_in n (split.front ++ split.back)) d split.back
    first = def-read d.own d.name d.name_at d.written d.right is n split.front split.back (loose-defs defs split.back split.second 0) split.first

    more : Settles (defs_height defs) n (defs_in n steps split.back) defs []
    more = ih split.back split.second (omega (arith, size, enough))

    go : suc n < max (def_height d) (defs_height defs) → ((nat_le (def_height d) (suc n) ≡ true) × (def_height d ≤ suc n)) ⊎ ((nat_le (def_height d) (suc n) ≡ false) × (suc n < def_height d)) → IsHigh (rest_found (def_in n (split.front ++ split.back)))
    go great (inl k) = subst (λ f. IsHigh (rest_found f)) (sym ((first.low k.1).1)) (high-then (defs_in n steps split.back) _ (more.high (omega (arith, great, k.1))))
    go great (inr k) = high-then (def_in n (split.front ++ split.back)) _ (first.high k.1)

pub defs-read : (defs : List DefSyntax) → AreDefs defs → (n steps : ℕ) (ts : List PlacedLexeme) → Spell ts (flat_map def_terminals defs) → length ts ≤ steps → Settles (defs_height defs) n (defs_in n steps ts) defs []
unfolding defs_in
defs-read [] are n steps [] h enough = record { low = λ small. (99, refl); high = λ great. absurd (omega arith) }
defs-read [] are n steps (t ∷ ts) h enough = absurd h
defs-read (d ∷ defs) are n steps [] h enough = absurd h
defs-read (d ∷ defs) are n zero (t ∷ ts) h enough = absurd (omega arith)
defs-read (d ∷ defs) (is, are) n (suc steps) (t ∷ ts) (l, p, h) enough = defs-cons d defs is n steps t ts l h (omega arith) (λ back k le. defs-read defs are n steps back k le)

-- MODULES

pub module-read : (it : ModuleSyntax) (ts : List PlacedLexeme) → IsModule ts it → (n : ℕ) → Settles (defs_height it.defs) n (module_in n ts) it []
unfolding module_in
module-read it ts is n = subst (λ f. Settles (defs_height it.defs) n f it []) (sym here) (record {
  low = λ small. ((defs.low small).0, rw ((defs.low small).1) refl);
  high = λ great. high-then (defs_in n (length split.back) split.back) _ (defs.high great);
})
  where
    split : Split ts (flat_map import_terminals it.imports) (flat_map def_terminals it.defs)
    split = spell-split (flat_map import_terminals it.imports) (flat_map def_terminals it.defs) ts is.spelled

    defs : Settles (defs_height it.defs) n (defs_in n (length split.back) split.back) it.defs []
    defs = defs-read it.defs is.grammatical n (length split.back) split.back split.second (omega arith)

    imports : imports_at (length ts) (split.front ++ split.back) ≡ Got it.imports 99 split.back
    imports = imports-read it.imports (length ts) split.front split.back split.first (no-import it.defs split.back split.second) (subst (λ x. length x ≤ length ts) split.whole (omega arith))

    here : module_in n ts ≡ (defs_in n (length split.back) split.back >>= λ defs left behind. Got (record { imports = it.imports; defs = defs }) left behind)
    here = ap (λ f. f >>= λ imports spare rest. defs_in n (length rest) rest >>= λ defs left behind. Got (record { imports = imports; defs = defs }) left behind) (ap (imports_at (length ts)) split.whole ∙ imports)

-- no tokens are those of two modules
pub module-tree : (ts : List PlacedLexeme) (a b : ModuleSyntax) → IsModule ts a → IsModule ts b → a ≡ b
module-tree ts a b p q =
    let n = max (defs_height a.defs) (defs_height b.defs) in
    let f = (module-read a ts p n).low (omega arith) in
    let g = (module-read b ts q n).low (omega arith) in
    let both : Got a f.0 [] ≡ Got b g.0 [] = sym f.1 ∙ g.1 in
    cc
