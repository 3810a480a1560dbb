-- Each step of reading gives what stands there, and what stands there is read.
use Rattle.std.proofs.Common.{◌≡◌, ℕ, ◌+◌, ◌<◌, Bool, true, false, ◌&&◌, ◌==◌, cond, List, [], ◌∷◌, ◌++◌, length, take, drop, get_or, Option, Some, None, refl, sym, ap, ◌∙◌, subst, arith}
use Rattle.std.specs.Prelude.{encode_utf8_all}
use Rattle.std.specs.Option.{option_map}
use Rattle.std.specs.Str.{chars, is_utf8, IsUtf8}
use Rattle.std.proofs.lemmas.Str.{IsUtf8-from_is_utf8, is_utf8-from_IsUtf8, encodes-chars}
use Rattle.std.proofs.lemmas.Slice.Eq.{bytes_eq-Decides}
use Rattle.std.proofs.lemmas.List.{take-append-drop, take_at, drop_at, length-append, at_drop_more, append_assoc, take_more}
use Rattle.std.proofs.lemmas.Bool.Decides.{Decides-eqb}
use Rattle.std.proofs.lemmas.Option.{some_pair_parts}
use Rattle.cc_base.specs.Names.{spells_name, IsName}
use Rattle.cc_words.specs.Words.{◌>>=◌, after_prefix, cut_at, name_of}

-- a step that gave something
pub some_from_bind : {A B : Type 0} (o : Option A) (f : A → Option B) (y : B) → (o >>= f) ≡ Some y → (x : A) × (o ≡ Some x) × (f x ≡ Some y)
some_from_bind None f y h = cc
some_from_bind (Some x) f y h = (x, refl, h)

-- a test that passed
pub passed : {A : Type 0} (b : Bool) (x y : A) → cond b (Some x) None ≡ Some y → (b ≡ true) × (x ≡ y)
passed true x y h = (refl, cc)
passed false x y h = cc

pub both : (a b : Bool) → (a && b) ≡ true → (a ≡ true) × (b ≡ true)
both true true h = (refl, refl)
both true false h = cc
both false b h = cc

module _ (bytes prefix rest : List ℕ) where
  pub after_prefix_gives : after_prefix bytes prefix ≡ Some rest → bytes ≡ prefix ++ rest
  after_prefix_gives h =
      let p = passed _ _ _ h in
      let front = (bytes_eq-Decides (take (length prefix) bytes) prefix).0 p.0 in
      sym (take-append-drop (length prefix) bytes) ∙ (ap (λ xs. xs ++ drop (length prefix) bytes) front ∙ ap (λ xs. prefix ++ xs) p.1)

pub after_prefix-append : (prefix rest : List ℕ) → after_prefix (prefix ++ rest) prefix ≡ Some rest
after_prefix-append prefix rest =
    let same = (bytes_eq-Decides (take (length prefix) (prefix ++ rest)) prefix).1 (take_at prefix rest (length prefix) refl) in
    rw (same, drop_at prefix rest (length prefix) refl)

-- the list has no c
abbrev pub Lacks : ℕ → List ℕ → Type 0
Lacks c [] = Unit {0}
Lacks c (b ∷ bs) = ((b == c) ≡ false) × Lacks c bs

cut_cons : (c b : ℕ) (bs word rest : List ℕ) (test : Bool) (inner : Option (List ℕ × List ℕ)) → (b == c) ≡ test → ((w r : List ℕ) → inner ≡ Some (w, r) → bs ≡ w ++ c ∷ r) → cond {A = Option (List ℕ × List ℕ)} test (Some ([], bs)) (option_map (λ cut. (b ∷ cut.0, cut.1)) inner) ≡ Some (word, rest) → b ∷ bs ≡ word ++ c ∷ rest
cut_cons c b bs word rest true inner t deeper h =
    let same = (Decides-eqb b c).0 t in
    let parts = some_pair_parts [] word bs rest h in
    ap (λ x. x ∷ bs) same ∙ (ap (λ xs. c ∷ xs) parts.1 ∙ ap (λ w. w ++ c ∷ rest) parts.0)
cut_cons c b bs word rest false None t deeper h = cc
cut_cons c b bs word rest false (Some cut) t deeper h =
    let parts = some_pair_parts (b ∷ cut.0) word cut.1 rest h in
    ap (λ xs. b ∷ xs) (deeper cut.0 cut.1 refl) ∙ (ap (λ r. (b ∷ cut.0) ++ c ∷ r) parts.1 ∙ ap (λ w. w ++ c ∷ rest) parts.0)

pub cut_at_gives : (c : ℕ) (bytes word rest : List ℕ) → cut_at c bytes ≡ Some (word, rest) → bytes ≡ word ++ c ∷ rest
cut_at_gives c [] word rest h = cc
cut_at_gives c (b ∷ bs) word rest h = cut_cons c b bs word rest (b == c) (cut_at c bs) refl (λ w r e. cut_at_gives c bs w r e) h

pub cut_at-append : (c : ℕ) (word rest : List ℕ) → Lacks c word → cut_at c (word ++ c ∷ rest) ≡ Some (word, rest)
cut_at-append c [] rest h = let same = (Decides-eqb c c).1 refl in rw same refl
cut_at-append c (b ∷ word) rest h = rw (h.0, cut_at-append c word rest h.1) refl

-- one turn of the search for c
abbrev pub before_cut : List ℕ → Option (List ℕ × List ℕ) → Option (List ℕ × List ℕ)
before_cut front cut = option_map (λ it. (front ++ it.0, it.1)) cut

before_cut_more : (front : List ℕ) (b : ℕ) (cut : Option (List ℕ × List ℕ)) → before_cut front (option_map (λ it. (b ∷ it.0, it.1)) cut) ≡ before_cut (front ++ b ∷ []) cut
before_cut_more front b None = refl
before_cut_more front b (Some cut) = ap (λ xs. Some (xs, cut.1)) (sym (append_assoc front (b ∷ []) cut.0))

pub cut_at_turn : (c : ℕ) (bytes : List ℕ) (i : ℕ) → i < length bytes → (get_or bytes i 0 == c) ≡ false → before_cut (take i bytes) (cut_at c (drop i bytes)) ≡ before_cut (take (i + 1) bytes) (cut_at c (drop (i + 1) bytes))
cut_at_turn c bytes i inside other =
    ap (before_cut (take i bytes)) (at_drop_more (cut_at c) bytes i 0 inside)
    ∙ (rw (other, take_more bytes i 0 inside) (before_cut_more (take i bytes) (get_or bytes i 0) (cut_at c (drop (i + 1) bytes))))

-- the name that a word is
pub name_of_gives : (word name : List ℕ) → name_of word ≡ Some name → IsName name × (word ≡ encode_utf8_all name)
unfolding name_of
name_of_gives word name h =
    let p = passed _ _ _ h in
    let tests = both _ _ p.0 in
    (subst (λ cs. IsName cs) p.1 tests.1, sym (encodes-chars word (IsUtf8-from_is_utf8 word tests.0)) ∙ ap encode_utf8_all p.1)

pub name_of-text : (word : List ℕ) → IsUtf8 word → IsName (chars word) → name_of word ≡ Some (chars word)
unfolding name_of
name_of-text word text named = rw (is_utf8-from_IsUtf8 word text, named) refl

pub name_of-none : (word : List ℕ) → (IsUtf8 word → ⊥) → name_of word ≡ None
unfolding name_of
name_of-none word none = elim (is_utf8 word) as (λ b. (is_utf8 word ≡ b → cond (b && spells_name (chars word)) (Some (chars word)) None ≡ None)) [ true ↦ λ h. absurd (none (IsUtf8-from_is_utf8 word h)) | false ↦ λ h. refl ] refl

pub Lacks-append : (c : ℕ) (xs ys : List ℕ) → Lacks c xs → Lacks c ys → Lacks c (xs ++ ys)
Lacks-append c [] ys p q = q
Lacks-append c (x ∷ xs) ys p q = (p.0, Lacks-append c xs ys p.1 q)

-- what stands behind a cut is shorter
pub cut_shorter : (c : ℕ) (bytes word rest : List ℕ) → Some (word, rest) ≡ cut_at c bytes → length rest < length bytes
cut_shorter c bytes word rest e = omega (arith, ap length (cut_at_gives c bytes word rest (sym e)), length-append word (c ∷ rest))
