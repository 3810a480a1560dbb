-- A reader looks at no token behind the first one that it leaves: with any other tokens from there on that begin alike it
-- finds the same. This is what makes a refusal one for all continuations.
use Rattle.std.proofs.Common.{◌≡◌, ◌∙◌, ℕ, Bool, true, false, List, [], ◌∷◌, ◌++◌, refl, sym, ap, subst, append_assoc, if◌then◌else◌}
use Rattle.std.specs.Prelude.{⊤}
use Rattle.cc_lex.specs.Lexemes.{PlacedLexeme}
use Rattle.cc_grammar.specs.Reading.{Found, Got, Wrong, High, Reader, ◌>>=◌}

-- both lists are empty, or both begin with one token
abbrev pub Alike : List PlacedLexeme → List PlacedLexeme → Type 0
Alike [] [] = ⊤
Alike [] (u ∷ us) = ⊥
Alike (t ∷ ts) [] = ⊥
Alike (t ∷ ts) (u ∷ us) = t ≡ u

-- the tokens that are left
abbrev pub left_of : {A : Type 0} → Found A → List PlacedLexeme
left_of (Got value spare rest) = rest
left_of (Wrong rest) = rest
left_of (High rest) = rest

-- the same with other tokens left
abbrev pub leaving : {A : Type 0} → Found A → List PlacedLexeme → Found A
leaving (Got value spare rest) us = Got value spare us
leaving (Wrong rest) us = Wrong us
leaving (High rest) us = High us

-- what a reader finds depends on the tokens that it takes and on the next one
pub record UniformAt {A : Type 0} (r : Reader A) (ts : List PlacedLexeme) (found : Found A) : Type 0 where
  pub front : List PlacedLexeme
  pub split : ts ≡ front ++ left_of found
  pub same : (us : List PlacedLexeme) → Alike (left_of found) us → r (front ++ us) ≡ leaving found us

abbrev pub Uniform : {A : Type 0} → Reader A → Type 0
Uniform r = (ts : List PlacedLexeme) → UniformAt r ts (r ts)

alike-same : (ts : List PlacedLexeme) → Alike ts ts
alike-same [] = tt
alike-same (t ∷ ts) = refl

alike-front : (front rest us : List PlacedLexeme) → Alike rest us → Alike (front ++ rest) (front ++ us)
alike-front [] rest us a = a
alike-front (t ∷ front) rest us a = refl

-- CLOSURE

pub then-uniform : {A B : Type 0} (r : Reader A) (k : A → ℕ → Reader B) (ts : List PlacedLexeme) → UniformAt r ts (r ts) → ((v : A) (s : ℕ) → Uniform (k v s)) → UniformAt (λ us. r us >>= k) ts (r ts >>= k)
then-uniform {A} {B} r k ts first second = go (r ts) first
  where
    next : (v : A) (s : ℕ) (rest : List PlacedLexeme) → UniformAt r ts (Got v s rest) → UniformAt (k v s) rest (k v s rest) → UniformAt (λ us. r us >>= k) ts (k v s rest)
    next v s rest u w = record {
      front = u.front ++ w.front;
      split = u.split ∙ ap (λ x. u.front ++ x) w.split ∙ sym (append_assoc u.front w.front (left_of (k v s rest)));
      same = λ us a.
          let alike : Alike rest (w.front ++ us) = subst (λ x. Alike x (w.front ++ us)) (sym w.split) (alike-front w.front _ us a) in
          rw append_assoc (rw (u.same (w.front ++ us) alike) (w.same us a));
    }

    go : (found : Found A) → UniformAt r ts found → UniformAt (λ us. r us >>= k) ts (found >>= k)
    go (Got v s rest) u = next v s rest u (second v s rest)
    go (Wrong rest) u = record { front = u.front; split = u.split; same = λ us a. rw (u.same us a) refl }
    go (High rest) u = record { front = u.front; split = u.split; same = λ us a. rw (u.same us a) refl }

-- what is found of the rest of the tokens, with nothing taken
pub data Stays (A : Type 0) : Type 0 where
  StaysGot : (value : A) (spare : ℕ) → Stays A
  StaysWrong : Stays A
  StaysHigh : Stays A

abbrev pub stay : {A : Type 0} → Stays A → Reader A
stay (StaysGot value spare) ts = Got value spare ts
stay StaysWrong ts = Wrong ts
stay StaysHigh ts = High ts

stay-left : {A : Type 0} (x : Stays A) (ts : List PlacedLexeme) → left_of (stay x ts) ≡ ts
stay-left (StaysGot value spare) ts = refl
stay-left StaysWrong ts = refl
stay-left StaysHigh ts = refl

stay-leaving : {A : Type 0} (x : Stays A) (ts us : List PlacedLexeme) → leaving (stay x ts) us ≡ stay x us
stay-leaving (StaysGot value spare) ts us = refl
stay-leaving StaysWrong ts us = refl
stay-leaving StaysHigh ts us = refl

stays : {A : Type 0} (r : Reader A) (x : Stays A) (ts : List PlacedLexeme) → ((us : List PlacedLexeme) → Alike ts us → r us ≡ stay x us) → UniformAt r ts (r ts)
stays r x ts e =
    subst (UniformAt r ts) (sym (e ts (alike-same ts)))
    (record { front = []; split = sym (stay-left x ts); same = λ us a. let alike : Alike ts us = subst (λ y. Alike y us) (stay-left x ts) a in e us alike ∙ sym (stay-leaving x ts us) })

pub stay-uniform : {A : Type 0} (x : Stays A) → Uniform (stay x)
stay-uniform x ts = stays (stay x) x ts (λ us a. refl)

-- nothing is there
pub at_end : {A : Type 0} (r : Reader A) (x : Stays A) → r [] ≡ stay x [] → UniformAt r [] (r [])
at_end r x e = stays r x [] go
  where
    go : (us : List PlacedLexeme) → Alike [] us → r us ≡ stay x us
    go [] a = e
    go (u ∷ us) a = absurd a

-- the first token is not taken
pub at_first : {A : Type 0} (r : Reader A) (x : Stays A) (t : PlacedLexeme) (ts : List PlacedLexeme) → ((us : List PlacedLexeme) → r (t ∷ us) ≡ stay x (t ∷ us)) → UniformAt r (t ∷ ts) (r (t ∷ ts))
at_first r x t ts e = stays r x (t ∷ ts) go
  where
    go : (us : List PlacedLexeme) → Alike (t ∷ ts) us → r us ≡ stay x us
    go [] a = absurd a
    go (u ∷ us) a = subst (λ y. r (y ∷ us) ≡ stay x (y ∷ us)) a (e us)

-- the first token is taken
pub past_first : {A : Type 0} (r next : Reader A) (t : PlacedLexeme) (ts : List PlacedLexeme) → ((us : List PlacedLexeme) → r (t ∷ us) ≡ next us) → UniformAt next ts (next ts) → UniformAt r (t ∷ ts) (r (t ∷ ts))
past_first r next t ts e u =
    subst (UniformAt r (t ∷ ts)) (sym (e ts))
    (record { front = t ∷ u.front; split = ap (λ x. t ∷ x) u.split; same = λ us a. e (u.front ++ us) ∙ u.same us a })

-- one reader or the other by a test of the first token
pub by_first : {A : Type 0} (test : List PlacedLexeme → Bool) (same_test : (ts us : List PlacedLexeme) → Alike ts us → test ts ≡ test us) (a b : Reader A) → Uniform a → Uniform b → Uniform (λ ts. if test ts then a ts else b ts)
by_first {A} test same_test a b ua ub ts = go (test ts) refl
  where
    whole : Reader A
    whole us = if test us then a us else b us

    kept : (front rest us : List PlacedLexeme) → ts ≡ front ++ rest → Alike rest us → test (front ++ us) ≡ test ts
    kept front rest us e l = sym (same_test ts (front ++ us) (subst (λ x. Alike x (front ++ us)) (sym e) (alike-front front rest us l)))

    first : (e : test ts ≡ true) → UniformAt a ts (a ts) → UniformAt whole ts (a ts)
    first e u = record { front = u.front; split = u.split; same = λ us l. let h : test (u.front ++ us) ≡ true = kept u.front _ us u.split l ∙ e in rw h (u.same us l) }

    second : (e : test ts ≡ false) → UniformAt b ts (b ts) → UniformAt whole ts (b ts)
    second e u = record { front = u.front; split = u.split; same = λ us l. let h : test (u.front ++ us) ≡ false = kept u.front _ us u.split l ∙ e in rw h (u.same us l) }

    go : (c : Bool) → test ts ≡ c → UniformAt whole ts (whole ts)
    go true e = rw e (first e (ua ts))
    go false e = rw e (second e (ub ts))

-- one reader is another where this is the first token
pub as_first : {A : Type 0} (r a : Reader A) (t : PlacedLexeme) (ts : List PlacedLexeme) → ((us : List PlacedLexeme) → r (t ∷ us) ≡ a (t ∷ us)) → UniformAt a (t ∷ ts) (a (t ∷ ts)) → UniformAt r (t ∷ ts) (r (t ∷ ts))
as_first r a t ts e u =
    subst (UniformAt r (t ∷ ts)) (sym (e ts))
    (record {
      front = u.front;
      split = u.split;
      same = λ us l. agrees (u.front ++ us) (subst (λ x. Alike x (u.front ++ us)) (sym u.split) (alike-front u.front _ us l)) ∙ u.same us l;
    })
  where
    agrees : (xs : List PlacedLexeme) → Alike (t ∷ ts) xs → r xs ≡ a xs
    agrees [] l = absurd l
    agrees (x ∷ xs) l = subst (λ y. r (y ∷ xs) ≡ a (y ∷ xs)) l (e xs)
