-- The laws of readings: each list of tokens has the computed reading, and no other.
use Rattle.std.proofs.Common.{◌≡◌, ◌∙◌, ◌⊎◌, inl, inr, ℕ, zero, suc, ◌+◌, ◌<◌, ◌≤◌, true, false, nat_le, List, [], ◌∷◌, ◌++◌, length, refl, sym, ap, subst, append_assoc, length-append, arith, if◌then◌else◌}
use Rattle.std.specs.Prelude.{⊤}
use Rattle.std.proofs.lemmas.List.{append-nil, append_cancel_right}
use Rattle.std.proofs.lemmas.Bool.Decides.{leb_tells}
use Rattle.cc_base.specs.declared.place.Place.{Place}
use Rattle.cc_lex.specs.declared.token.Word.TheVariants as words
use Rattle.cc_lex.specs.Lexemes.{PlacedLexeme}
use Rattle.cc_grammar.specs.Syntax.{DefSyntax, ModuleSyntax}
use Rattle.cc_grammar.specs.Grammar.{IsModule, IsLow, AreLowDefs}
use Rattle.cc_grammar.specs.Reads.{Begins, BeginsLow, NoneGoesOn, OnlyHighGoOn, place_of, TreeOf, SyntaxError, TooHigh, Reads}
use Rattle.cc_grammar.specs.Tests.{is_word}
use Rattle.cc_grammar.specs.Reading.{Found, Got, Wrong, High, Reader, ◌>>=◌, import_at, imports_at, def_at, defs_at, module_at, reading_from, reading_of}
use Rattle.cc_grammar.specs.GrammarLaws.{TokensReadAsTheyAre, TokensHaveOneReading, ModulesHaveOneTree, LowModulesAreRead, HighModulesAreTooHigh}
use Rattle.cc_grammar.proofs.Uniform.{Alike, Uniform, left_of, leaving, then-uniform}
use Rattle.cc_grammar.proofs.UniformReaders.{made-uniform, import_at-uniform, imports_at-uniform, def_at-uniform, defs_at-uniform}
use Rattle.cc_grammar.proofs.Sure.{BeginsIn}
use Rattle.cc_grammar.proofs.SureShapes.{Behind}
use Rattle.cc_grammar.proofs.SureModules.{SureIn, module_language, module_at-in, module_at-ends, defs_height}
use Rattle.cc_grammar.proofs.Complete.{IsHigh}
use Rattle.cc_grammar.proofs.CompleteModules.{module-same, module-read, module-tree}

-- STEPS: more than enough of them make no difference

same-then : {A B : Type 0} (r : Reader A) → Uniform r → (f g : A → ℕ → Reader B) (ts : List PlacedLexeme) → ((v : A) (s : ℕ) (rest : List PlacedLexeme) → length rest ≤ length ts → f v s rest ≡ g v s rest) → (r ts >>= f) ≡ (r ts >>= g)
same-then {A} {B} r uniform f g ts same = go (r ts) (uniform ts).split
  where
    go : (found : Found A) → ts ≡ (uniform ts).front ++ left_of found → (found >>= f) ≡ (found >>= g)
    go (Got v s rest) e = let size : length ts ≡ length (uniform ts).front + length rest = ap length e ∙ length-append (uniform ts).front rest in same v s rest (omega arith)
    go (Wrong rest) e = refl
    go (High rest) e = refl

imports-steps : (j k : ℕ) (ts : List PlacedLexeme) → length ts ≤ j → length ts ≤ k → imports_at j ts ≡ imports_at k ts
unfolding imports_at
imports-steps zero zero ts a b = refl
imports-steps zero (suc k) [] a b = refl
imports-steps zero (suc k) (t ∷ ts) a b = absurd (omega arith)
imports-steps (suc j) zero [] a b = refl
imports-steps (suc j) zero (t ∷ ts) a b = absurd (omega arith)
imports-steps (suc j) (suc k) [] a b = refl
imports-steps (suc j) (suc k) (t ∷ ts) a b =
    ap (λ f. if is_word words.Import t.lexeme then f else Got [] 99 (t ∷ ts))
    (same-then import_at import_at-uniform (λ first spare rest. imports_at j rest >>= λ more left behind. Got (first ∷ more) left behind) (λ first spare rest. imports_at k rest >>= λ more left behind. Got (first ∷ more) left behind) ts
    (λ first s rest le. ap (λ f. f >>= λ more left behind. Got (first ∷ more) left behind) (imports-steps j k rest (omega arith) (omega arith))))

defs-steps : (j k : ℕ) (ts : List PlacedLexeme) → length ts ≤ j → length ts ≤ k → defs_at j ts ≡ defs_at k ts
unfolding defs_at
defs-steps zero zero ts a b = refl
defs-steps zero (suc k) [] a b = refl
defs-steps zero (suc k) (t ∷ ts) a b = absurd (omega arith)
defs-steps (suc j) zero [] a b = refl
defs-steps (suc j) zero (t ∷ ts) a b = absurd (omega arith)
defs-steps (suc j) (suc k) [] a b = refl
defs-steps (suc j) (suc k) (t ∷ ts) a b =
    ap (λ f. if is_word words.Def t.lexeme then f else Wrong (t ∷ ts))
    (same-then def_at def_at-uniform (λ first spare rest. defs_at j rest >>= λ more left behind. Got (first ∷ more) left behind) (λ first spare rest. defs_at k rest >>= λ more left behind. Got (first ∷ more) left behind) ts
    (λ first s rest le. ap (λ f. f >>= λ more left behind. Got (first ∷ more) left behind) (defs-steps j k rest (omega arith) (omega arith))))

-- a module in so many steps
module_by : ℕ → Reader ModuleSyntax
module_by k tokens =
    imports_at k tokens >>= λ imports spare rest.
    defs_at k rest >>= λ defs left behind. Got (record { imports = imports; defs = defs }) left behind

module-by : (k : ℕ) (ts : List PlacedLexeme) → length ts ≤ k → module_at ts ≡ module_by k ts
unfolding module_at module_by
module-by k ts le =
    same-then (imports_at (length ts)) (imports_at-uniform (length ts)) (λ imports spare rest. defs_at (length rest) rest >>= λ defs left behind. Got (record { imports = imports; defs = defs }) left behind) (λ imports spare rest. defs_at k rest >>= λ defs left behind. Got (record { imports = imports; defs = defs }) left behind) ts
    (λ imports s rest small. ap (λ f. f >>= λ defs left behind. Got (record { imports = imports; defs = defs }) left behind) (defs-steps (length rest) k rest (omega arith) (omega arith))) ∙
    ap (λ f. f >>= λ imports spare rest. defs_at k rest >>= λ defs left behind. Got (record { imports = imports; defs = defs }) left behind) (imports-steps (length ts) k ts (omega arith) le)

module_by-uniform : (k : ℕ) → Uniform (module_by k)
unfolding module_by
module_by-uniform k ts = then-uniform (imports_at k) (λ imports spare rest. defs_at k rest >>= λ defs left behind. Got (record { imports = imports; defs = defs }) left behind) ts (imports_at-uniform k ts) (λ imports s rest. made-uniform (defs_at k) (λ defs. record { imports = imports; defs = defs }) rest (defs_at-uniform k rest))

-- what is found of a module's tokens does not change with the tokens behind the next one
module-same-front : (ts front us : List PlacedLexeme) → ts ≡ front ++ left_of (module_at ts) → Alike (left_of (module_at ts)) us → module_at (front ++ us) ≡ leaving (module_at ts) us
module-same-front ts front us e alike =
    let k = length ts + length (front ++ us) in
    let here : module_at ts ≡ module_by k ts = module-by k ts (omega arith) in
    let u = module_by-uniform k ts in
    let split : ts ≡ u.front ++ left_of (module_at ts) = subst (λ f. ts ≡ u.front ++ left_of f) (sym here) u.split in
    let same : u.front ≡ front = append_cancel_right u.front front (left_of (module_at ts)) (sym split ∙ e) in
    module-by k (front ++ us) (omega arith) ∙ ap (λ x. module_by k (x ++ us)) (sym same) ∙
    u.same us (subst (λ f. Alike (left_of f) us) here alike) ∙ ap (λ f. leaving f us) (sym here)

-- HEIGHTS

low-is : (defs : List DefSyntax) → defs_height defs ≤ 100 → AreLowDefs defs
low-is [] h = tt
low-is (d ∷ defs) h = ((omega arith, omega arith), low-is defs (omega arith))

is-low : (defs : List DefSyntax) → AreLowDefs defs → defs_height defs ≤ 100
is-low [] h = omega arith
is-low (d ∷ defs) ((a, b), h) = let more : defs_height defs ≤ 100 = is-low defs h in omega arith

-- a module's tokens are never refused, and those of a low one give it
module-low : (it : ModuleSyntax) (ts : List PlacedLexeme) → IsModule ts it → IsLow it → (s : ℕ) × (module_at ts ≡ Got it s [])
module-low it ts is low = let f = (module-read it ts is 99).low (is-low it.defs low) in (f.0, sym (module-same ts) ∙ f.1)

abbrev IsWrong : {A : Type 0} → Found A → Type 0
IsWrong (Got v s rest) = ⊥
IsWrong (Wrong rest) = ⊤
IsWrong (High rest) = ⊥

high-not-wrong : {A : Type 0} (found : Found A) → IsHigh found → IsWrong found → ⊥
high-not-wrong (Got v s rest) h w = h
high-not-wrong (Wrong rest) h w = h
high-not-wrong (High rest) h w = w

module-not-wrong : (it : ModuleSyntax) (ts : List PlacedLexeme) → IsModule ts it → IsWrong (module_at ts) → ⊥
module-not-wrong it ts is wrong = go (leb_tells (defs_height it.defs) 100)
  where
    go : ((nat_le (defs_height it.defs) 100 ≡ true) × (defs_height it.defs ≤ 100)) ⊎ ((nat_le (defs_height it.defs) 100 ≡ false) × (100 < defs_height it.defs)) → ⊥
    go (inl k) = let f = (module-read it ts is 99).low k.1 in subst IsWrong (sym (module-same ts) ∙ f.1) wrong
    go (inr k) = high-not-wrong (module_at ts) (subst IsHigh (module-same ts) ((module-read it ts is 99).high k.1)) wrong

low-not-high : (it : ModuleSyntax) (ts : List PlacedLexeme) → IsModule ts it → IsLow it → IsHigh (module_at ts) → ⊥
low-not-high it ts is low high = subst IsHigh ((module-low it ts is low).1) high

-- THE READING

begins-low : (front : List PlacedLexeme) → BeginsIn module_language 100 front → BeginsLow front
begins-low front (it, more, h, sp) = (more, it, record { grammatical = sp.0; spelled = sp.1 }, low-is it.defs h)

none-goes-on : (ts front rest : List PlacedLexeme) → module_at ts ≡ Wrong rest → ts ≡ front ++ rest → NoneGoesOn front rest
none-goes-on ts front [] e f = λ it is. module-not-wrong it front is (subst IsWrong (sym (ap module_at (sym (append-nil front) ∙ sym f) ∙ e)) tt)
none-goes-on ts front (bad ∷ after) e f = λ (more, it, is).
    let split : ts ≡ front ++ left_of (module_at ts) = subst (λ x. ts ≡ front ++ left_of x) (sym e) f in
    let alike : Alike (left_of (module_at ts)) (bad ∷ more) = subst (λ x. Alike (left_of x) (bad ∷ more)) (sym e) refl in
    let same : module_at (front ++ (bad ∷ more)) ≡ Wrong (bad ∷ more) = module-same-front ts front (bad ∷ more) split alike ∙ ap (λ x. leaving x (bad ∷ more)) e in
    let whole : front ++ bad ∷ [] ++ more ≡ front ++ (bad ∷ more) = append_assoc front (bad ∷ []) more in
    module-not-wrong it (front ++ (bad ∷ more)) (subst (λ x. IsModule x it) whole is) (subst IsWrong (sym same) tt)

none-low-goes-on : (ts front after : List PlacedLexeme) (bad : PlacedLexeme) → module_at ts ≡ High (bad ∷ after) → ts ≡ front ++ (bad ∷ after) → BeginsLow (front ++ bad ∷ []) → ⊥
none-low-goes-on ts front after bad e f (more, it, is, low) =
    let split : ts ≡ front ++ left_of (module_at ts) = subst (λ x. ts ≡ front ++ left_of x) (sym e) f in
    let alike : Alike (left_of (module_at ts)) (bad ∷ more) = subst (λ x. Alike (left_of x) (bad ∷ more)) (sym e) refl in
    let same : module_at (front ++ (bad ∷ more)) ≡ High (bad ∷ more) = module-same-front ts front (bad ∷ more) split alike ∙ ap (λ x. leaving x (bad ∷ more)) e in
    let whole : front ++ bad ∷ [] ++ more ≡ front ++ (bad ∷ more) = append_assoc front (bad ∷ []) more in
    low-not-high it (front ++ (bad ∷ more)) (subst (λ x. IsModule x it) whole is) low (subst IsHigh (sym same) tt)

-- the computed reading is one
pub tokens_read_as_they_are : TokensReadAsTheyAre
unfolding reading_of
tokens_read_as_they_are tokens end = go (module_at tokens) refl (module_at-in tokens) (module_at-ends tokens)
  where
    go : (found : Found ModuleSyntax) → module_at tokens ≡ found → SureIn module_language 100 tokens found → Behind (λ v rest. rest ≡ []) found → Reads tokens end (reading_from end found)
    go (Got it s rest) e (front, f, sp, h) ends =
        let whole : tokens ≡ front = f ∙ ap (λ x. front ++ x) ends ∙ append-nil front in
        let all : module_language.spells it tokens = subst (λ x. module_language.spells it x) (sym whole) sp in
        (record { grammatical = all.0; spelled = all.1 }, low-is it.defs h)
    go (Wrong rest) e (front, f, b) ends = (front, rest, f, refl, begins-low front b, none-goes-on tokens front rest e f)
    go (High rest) e (front, bad, after, g, f, b, (it, more, sp)) ends =
        let found : module_at tokens ≡ High (bad ∷ after) = e ∙ ap High g in
        let split : tokens ≡ front ++ (bad ∷ after) = f ∙ ap (λ x. front ++ x) g in
        (front, bad ∷ after, split, ap (λ x. place_of x end) g, begins-low front b, ((more, it, record { grammatical = sp.0; spelled = sp.1 }), none-low-goes-on tokens front after bad found split))

-- a low module is read as it is
pub low_modules_are_read : LowModulesAreRead
unfolding reading_of
low_modules_are_read tokens end it is low = ap (reading_from end) ((module-low it tokens is low).1)

-- a high one is too high
pub high_modules_are_too_high : HighModulesAreTooHigh
unfolding reading_of
high_modules_are_too_high tokens end it is tall = go (leb_tells (defs_height it.defs) 100)
  where
    read : (found : Found ModuleSyntax) → IsHigh found → (at : Place) × (reading_from end found ≡ TooHigh at)
    read (Got v s rest) h = absurd h
    read (Wrong rest) h = absurd h
    read (High rest) h = (place_of rest end, refl)

    go : ((nat_le (defs_height it.defs) 100 ≡ true) × (defs_height it.defs ≤ 100)) ⊎ ((nat_le (defs_height it.defs) 100 ≡ false) × (100 < defs_height it.defs)) → (at : Place) × (reading_from end (module_at tokens) ≡ TooHigh at)
    go (inl k) = absurd (tall (low-is it.defs k.1))
    go (inr k) = read (module_at tokens) (subst IsHigh (module-same tokens) ((module-read it tokens is 99).high k.1))

pub modules_have_one_tree : ModulesHaveOneTree
modules_have_one_tree tokens a b p q = module-tree tokens a b p q

-- ONE READING

-- two places in a list: the same, or one before the other
data Places (a x b y : List PlacedLexeme) : Type 0 where
  same : a ≡ b → x ≡ y → Places a x b y
  first : (t : PlacedLexeme) (mid : List PlacedLexeme) → b ≡ a ++ t ∷ mid → x ≡ t ∷ (mid ++ y) → Places a x b y
  second : (t : PlacedLexeme) (mid : List PlacedLexeme) → a ≡ b ++ t ∷ mid → y ≡ t ∷ (mid ++ x) → Places a x b y

places-next : (z w : PlacedLexeme) → z ≡ w → (a x b y : List PlacedLexeme) → Places a x b y → Places (z ∷ a) x (w ∷ b) y
places-next z w e a x b y (same f g) = same (cc) g
places-next z w e a x b y (first t mid f g) = first t mid (cc) g
places-next z w e a x b y (second t mid f g) = second t mid (cc) g

places-of : (a x b y : List PlacedLexeme) → a ++ x ≡ b ++ y → Places a x b y
places-of [] x [] y e = same refl e
places-of [] x (w ∷ b) y e = first w b refl e
places-of (z ∷ a) x [] y e = second z a refl (sym e)
places-of (z ∷ a) x (w ∷ b) y e = let f : z ∷ (a ++ x) ≡ w ∷ (b ++ y) = e in places-next z w (cc) a x b y (places-of a x b y (cc))

-- what begins with more tokens begins with fewer
begins-front : (front : List PlacedLexeme) (t : PlacedLexeme) (mid : List PlacedLexeme) → BeginsLow (front ++ t ∷ mid) → BeginsLow (front ++ t ∷ [])
begins-front front t mid (more, it, is, low) =
    (mid ++ more, it, subst (λ x. IsModule x it) (append_assoc front (t ∷ mid) more ∙ sym (append_assoc front (t ∷ []) (mid ++ more))) is, low)

begins-some : (front : List PlacedLexeme) → BeginsLow front → Begins front
begins-some front (more, it, is, low) = (more, it, is)

-- a refusal before what a low module begins with is none
none-before : (front rest : List PlacedLexeme) (t : PlacedLexeme) (mid behind : List PlacedLexeme) → rest ≡ t ∷ behind → NoneGoesOn front rest → BeginsLow (front ++ t ∷ mid) → ⊥
none-before front rest t mid behind e none b = subst (NoneGoesOn front) e none (begins-some (front ++ t ∷ []) (begins-front front t mid b))

high-before : (front rest : List PlacedLexeme) (t : PlacedLexeme) (mid behind : List PlacedLexeme) → rest ≡ t ∷ behind → OnlyHighGoOn front rest → BeginsLow (front ++ t ∷ mid) → ⊥
high-before front rest t mid behind e only b = (subst (OnlyHighGoOn front) e only).1 (begins-front front t mid b)

-- the two kinds of refusals do not stand at one place
not-both : (front rest : List PlacedLexeme) → NoneGoesOn front rest → OnlyHighGoOn front rest → ⊥
not-both front [] none only = only
not-both front (t ∷ rest) none only = none only.0

module-not-refused : (tokens front rest : List PlacedLexeme) (it : ModuleSyntax) → tokens ≡ front ++ rest → IsModule tokens it → NoneGoesOn front rest → ⊥
module-not-refused tokens front [] it e is none = none it (subst (λ x. IsModule x it) (e ∙ append-nil front) is)
module-not-refused tokens front (t ∷ rest) it e is none = none (rest, it, subst (λ x. IsModule x it) (e ∙ sym (append_assoc front (t ∷ []) rest)) is)

low-not-too-high : (tokens front rest : List PlacedLexeme) (it : ModuleSyntax) → tokens ≡ front ++ rest → IsModule tokens it → IsLow it → OnlyHighGoOn front rest → ⊥
low-not-too-high tokens front [] it e is low only = only
low-not-too-high tokens front (t ∷ rest) it e is low only = only.1 (rest, it, subst (λ x. IsModule x it) (e ∙ sym (append_assoc front (t ∷ []) rest)) is, low)

pub tokens_have_one_reading : TokensHaveOneReading
tokens_have_one_reading tokens end (TreeOf a) (TreeOf b) (p, low) (q, low') = ap TreeOf (module-tree tokens a b p q)
tokens_have_one_reading tokens end (TreeOf a) (SyntaxError at) (p, low) (front, rest, e, f, b, none) = absurd (module-not-refused tokens front rest a e p none)
tokens_have_one_reading tokens end (TreeOf a) (TooHigh at) (p, low) (front, rest, e, f, b, only) = absurd (low-not-too-high tokens front rest a e p low only)
tokens_have_one_reading tokens end (SyntaxError at) (TreeOf a) (front, rest, e, f, b, none) (p, low) = absurd (module-not-refused tokens front rest a e p none)
tokens_have_one_reading tokens end (TooHigh at) (TreeOf a) (front, rest, e, f, b, only) (p, low) = absurd (low-not-too-high tokens front rest a e p low only)
tokens_have_one_reading tokens end (SyntaxError at) (SyntaxError at') (front, rest, e, f, b, none) (front', rest', e', f', b', none') = go (places-of front rest front' rest' (sym e ∙ e'))
  where
    go : Places front rest front' rest' → SyntaxError at ≡ SyntaxError at'
    go (same g h) = ap SyntaxError (f ∙ ap (λ x. place_of x end) h ∙ sym f')
    go (first t mid g h) = absurd (none-before front rest t mid (mid ++ rest') h none (subst BeginsLow g b'))
    go (second t mid g h) = absurd (none-before front' rest' t mid (mid ++ rest) h none' (subst BeginsLow g b))
tokens_have_one_reading tokens end (SyntaxError at) (TooHigh at') (front, rest, e, f, b, none) (front', rest', e', f', b', only) = go (places-of front rest front' rest' (sym e ∙ e'))
  where
    go : Places front rest front' rest' → SyntaxError at ≡ TooHigh at'
    go (same g h) = absurd (not-both front' rest' (subst (λ x. NoneGoesOn x rest') g (subst (NoneGoesOn front) h none)) only)
    go (first t mid g h) = absurd (none-before front rest t mid (mid ++ rest') h none (subst BeginsLow g b'))
    go (second t mid g h) = absurd (high-before front' rest' t mid (mid ++ rest) h only (subst BeginsLow g b))
tokens_have_one_reading tokens end (TooHigh at) (SyntaxError at') (front, rest, e, f, b, only) (front', rest', e', f', b', none) = go (places-of front rest front' rest' (sym e ∙ e'))
  where
    go : Places front rest front' rest' → TooHigh at ≡ SyntaxError at'
    go (same g h) = absurd (not-both front' rest' none (subst (λ x. OnlyHighGoOn x rest') g (subst (OnlyHighGoOn front) h only)))
    go (first t mid g h) = absurd (high-before front rest t mid (mid ++ rest') h only (subst BeginsLow g b'))
    go (second t mid g h) = absurd (none-before front' rest' t mid (mid ++ rest) h none (subst BeginsLow g b))
tokens_have_one_reading tokens end (TooHigh at) (TooHigh at') (front, rest, e, f, b, only) (front', rest', e', f', b', only') = go (places-of front rest front' rest' (sym e ∙ e'))
  where
    go : Places front rest front' rest' → TooHigh at ≡ TooHigh at'
    go (same g h) = ap TooHigh (f ∙ ap (λ x. place_of x end) h ∙ sym f')
    go (first t mid g h) = absurd (high-before front rest t mid (mid ++ rest') h only (subst BeginsLow g b'))
    go (second t mid g h) = absurd (high-before front' rest' t mid (mid ++ rest) h only' (subst BeginsLow g b))
