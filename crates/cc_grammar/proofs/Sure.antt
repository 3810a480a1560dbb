-- What a reader finds is so: the tree that it gives is that of the tokens it takes and fits the room; where it refuses, a
-- tree within the room begins with the tokens before the refused one; and where it finds no room, some tree goes on.
use Rattle.std.proofs.Common.{◌≡◌, ◌∙◌, ℕ, ◌+◌, ◌≤◌, max, List, [], ◌∷◌, ◌++◌, sym, ap, subst, append_assoc, arith}
use Rattle.cc_lex.specs.Lexemes.{PlacedLexeme}
use Rattle.cc_grammar.specs.Reading.{Found, Got, Wrong, High, Reader, ◌>>=◌}

-- which tokens are those of a value, and the value's height
pub record Language (A : Type 0) : Type 1 where
  pub spells : A → List PlacedLexeme → Type 0
  pub height : A → ℕ

-- a value within the room begins with these tokens
abbrev pub BeginsIn : {A : Type 0} → Language A → ℕ → List PlacedLexeme → Type 0
BeginsIn {A} l room front = (v : A) × (more : List PlacedLexeme) × (l.height v ≤ room) × l.spells v (front ++ more)

-- a value begins with these tokens
abbrev pub BeginsSome : {A : Type 0} → Language A → List PlacedLexeme → Type 0
BeginsSome {A} l front = (v : A) × (more : List PlacedLexeme) × l.spells v (front ++ more)

-- what was found of these tokens, behind others that were read before
abbrev pub SureAt : {A : Type 0} → Language A → (room top : ℕ) (pre ts : List PlacedLexeme) → Found A → Type 0
SureAt l room top pre ts (Got v s rest) =
    (front : List PlacedLexeme) × (ts ≡ front ++ rest) × l.spells v (pre ++ front) × (s ≤ top) × (s + l.height v ≤ room)
SureAt l room top pre ts (Wrong rest) = (front : List PlacedLexeme) × (ts ≡ front ++ rest) × BeginsIn l room (pre ++ front)
SureAt l room top pre ts (High rest) =
    (front : List PlacedLexeme) × (bad : PlacedLexeme) × (after : List PlacedLexeme) × (rest ≡ bad ∷ after) × (ts ≡ front ++ rest) × BeginsIn l room (pre ++ front) × BeginsSome l (pre ++ front ++ bad ∷ [])

-- a value of the language with a height of at most 1, which fills what was not read
pub record Filler {A : Type 0} (l : Language A) : Type 0 where
  pub value : A
  pub tokens : List PlacedLexeme
  pub spelled : l.spells value tokens
  pub low : l.height value ≤ 1

longer : (ts front rest more behind : List PlacedLexeme) → ts ≡ front ++ rest → rest ≡ more ++ behind → ts ≡ (front ++ more) ++ behind
longer ts front rest more behind e f = e ∙ ap (λ x. front ++ x) f ∙ sym (append_assoc front more behind)

-- one value and then another, as one
pub then-sure : {A B C : Type 0} (la : Language A) (lb : Language B) (lc : Language C) (pair : A → B → C) (join : (a : A) (b : B) (xs ys : List PlacedLexeme) → la.spells a xs → lb.spells b ys → lc.spells (pair a b) (xs ++ ys)) (heights : (a : A) (b : B) → lc.height (pair a b) ≡ max (la.height a) (lb.height b)) (filler : Filler lb) (room top : ℕ) → 1 ≤ room → (ts : List PlacedLexeme) (found : Found A) → SureAt la room top [] ts found → (next : A → ℕ → Reader B) → ((v : A) (s : ℕ) (rest : List PlacedLexeme) → s ≤ top → SureAt lb room s [] rest (next v s rest)) → SureAt lc room top [] ts (found >>= λ v s rest. next v s rest >>= λ w less behind. Got (pair v w) less behind)
then-sure {A} {B} {C} la lb lc pair join heights filler room top low ts (Got v s rest) (front, e, sp, sc, sr) next second = go (next v s rest) (second v s rest sc)
  where
    joined : (w : B) (xs ys : List PlacedLexeme) → lb.spells w (xs ++ ys) → lc.spells (pair v w) (front ++ xs ++ ys)
    joined w xs ys h = rw append_assoc (join v w front (xs ++ ys) sp h)

    go : (f : Found B) → SureAt lb room s [] rest f → SureAt lc room top [] ts (f >>= λ w less behind. Got (pair v w) less behind)
    go (Got w less behind) (more, f, sq, lc', lr) =
        (front ++ more, longer ts front rest more behind e f, join v w front more sp sq, omega arith, (rw heights (omega arith)))
    go (Wrong behind) (more, f, (w, ys, h, sq)) =
        (front ++ more, longer ts front rest more behind e f, (pair v w, ys, (rw heights (omega arith)), joined w more ys sq))
    go (High behind) (more, bad, after, g, f, (w, ys, h, sq), (x, zs, sr')) =
        (front ++ more, bad, after, g, longer ts front rest more behind e f, (pair v w, ys, (rw heights (omega arith)), joined w more ys sq), (pair v x, zs, subst (λ y. lc.spells (pair v x) (y ++ zs)) (sym (append_assoc front more (bad ∷ []))) (joined x (more ++ bad ∷ []) zs sr')))
then-sure {A} {B} {C} la lb lc pair join heights filler room top low ts (Wrong rest) (front, e, (v, more, h, sp)) next second =
    let f : lb.height filler.value ≤ 1 = filler.low in
    (front, e, (pair v filler.value, more ++ filler.tokens, (rw heights (omega arith)), (rw (← append_assoc) (join v filler.value (front ++ more) filler.tokens sp filler.spelled))))
then-sure {A} {B} {C} la lb lc pair join heights filler room top low ts (High rest) (front, bad, after, g, e, (v, more, h, sp), (w, zs, sq)) next second =
    let f : lb.height filler.value ≤ 1 = filler.low in
    (front, bad, after, g, e, (pair v filler.value, more ++ filler.tokens, (rw heights (omega arith)), (rw (← append_assoc) (join v filler.value (front ++ more) filler.tokens sp filler.spelled))), (pair w filler.value, zs ++ filler.tokens, (rw (← append_assoc) (join w filler.value (front ++ bad ∷ [] ++ zs) filler.tokens sq filler.spelled))))

-- a value made of one of another language, behind other tokens
pub made-sure : {A B : Type 0} (la : Language A) (lb : Language B) (f : A → B) (pre : List PlacedLexeme) (lift : (a : A) (xs : List PlacedLexeme) → la.spells a xs → lb.spells (f a) (pre ++ xs)) (room top room' top' : ℕ) → ((a : A) → la.height a ≤ room → lb.height (f a) ≤ room') → ((a : A) (s : ℕ) → s ≤ top → s + la.height a ≤ room → (s ≤ top') × (s + lb.height (f a) ≤ room')) → (ts : List PlacedLexeme) (found : Found A) → SureAt la room top [] ts found → SureAt lb room' top' pre ts (found >>= λ v s rest. Got (f v) s rest)
made-sure la lb f pre lift room top room' top' heights spares ts (Got v s rest) (front, e, sp, sc, sr) =
    (front, e, lift v front sp, (spares v s sc sr).0, (spares v s sc sr).1)
made-sure la lb f pre lift room top room' top' heights spares ts (Wrong rest) (front, e, (v, more, h, sp)) =
    (front, e, (f v, more, heights v h, (rw append_assoc (lift v (front ++ more) sp))))
made-sure la lb f pre lift room top room' top' heights spares ts (High rest) (front, bad, after, g, e, (v, more, h, sp), (w, zs, sq)) =
    (front, bad, after, g, e, (f v, more, heights v h, (rw append_assoc (lift v (front ++ more) sp))), (f w, zs, (simp append_assoc (simp append_assoc at (lift w (front ++ bad ∷ [] ++ zs) sq)))))

-- tokens that were read before count as read
pub shift-sure : {A : Type 0} (l : Language A) (room top : ℕ) (pre mid ts : List PlacedLexeme) (found : Found A) → SureAt l room top (pre ++ mid) ts found → SureAt l room top pre (mid ++ ts) found
shift-sure l room top pre mid ts (Got v s rest) (front, e, sp, sc, sr) =
    (mid ++ front, ap (λ x. mid ++ x) e ∙ sym (append_assoc mid front rest), (rw (← append_assoc) sp), sc, sr)
shift-sure l room top pre mid ts (Wrong rest) (front, e, (v, more, h, sp)) =
    (mid ++ front, ap (λ x. mid ++ x) e ∙ sym (append_assoc mid front rest), (v, more, h, (rw (← append_assoc pre mid front) sp)))
shift-sure l room top pre mid ts (High rest) (front, bad, after, g, e, (v, more, h, sp), (w, zs, sq)) =
    (mid ++ front, bad, after, g, ap (λ x. mid ++ x) e ∙ sym (append_assoc mid front rest), (v, more, h, (rw (← append_assoc pre mid front) sp)), (w, zs, (rw (← append_assoc pre mid front) sq)))

-- the same tokens, written in another way
pub resplit : {A : Type 0} (l : Language A) (room top : ℕ) (pre ts us : List PlacedLexeme) (found : Found A) → us ≡ ts → SureAt l room top pre ts found → SureAt l room top pre us found
resplit l room top pre ts us found e h = subst (λ x. SureAt l room top pre x found) (sym e) h

-- a value, and what goes on it
pub chain-sure : {A : Type 0} (l : Language A) (room top top' : ℕ) (pre ts : List PlacedLexeme) (found : Found A) (next : A → ℕ → Reader A) → SureAt l room top pre ts found → ((v : A) (s : ℕ) (front rest : List PlacedLexeme) → l.spells v (pre ++ front) → s ≤ top → s + l.height v ≤ room → SureAt l room top' (pre ++ front) rest (next v s rest)) → SureAt l room top' pre ts (found >>= next)
chain-sure l room top top' pre ts (Got v s rest) next (front, e, sp, sc, sr) more =
    resplit l room top' pre (front ++ rest) ts (next v s rest) e (shift-sure l room top' pre front rest (next v s rest) (more v s front rest sp sc sr))
chain-sure l room top top' pre ts (Wrong rest) next h more = h
chain-sure l room top top' pre ts (High rest) next h more = h
