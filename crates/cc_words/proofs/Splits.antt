-- Words joined by a byte that stands in none of them are split there again.
use Rattle.std.proofs.Common.{◌≡◌, ℕ, Bool, true, false, not, ◌&&◌, ◌==◌, cond, List, [], ◌∷◌, ◌++◌, map, Option, Some, None, refl, sym, ap, ◌∙◌, subst}
use Rattle.std.specs.Prelude.{option_map}
use Rattle.std.specs.List.{flat_map}
use Rattle.std.proofs.lemmas.List.{append-nil, append_assoc}
use Rattle.std.proofs.lemmas.Bool.Decides.{Decides-eqb}
use Rattle.std.proofs.lemmas.Option.{some_pair_parts}
use Rattle.cc_words.specs.Words.{joined, cut_at, split_at, before_first}
use Rattle.cc_words.proofs.Steps.{both, Lacks, Lacks-append, cut_at_gives}

-- no word has the byte
abbrev pub AllLack : ℕ → List (List ℕ) → Type 0
AllLack c [] = Unit {0}
AllLack c (word ∷ words) = Lacks c word × AllLack c words

-- the same as a test
abbrev pub does_lack : ℕ → List ℕ → Bool
does_lack c [] = true
does_lack c (b ∷ bs) = not (b == c) && does_lack c bs

not_true : (t : Bool) → not t ≡ true → t ≡ false
not_true true h = cc
not_true false h = refl

pub Lacks-test : (c : ℕ) (bs : List ℕ) → does_lack c bs ≡ true → Lacks c bs
Lacks-test c [] h = tt
Lacks-test c (b ∷ bs) h =
    let parts = both (not (b == c)) (does_lack c bs) h in
    (not_true (b == c) parts.0, Lacks-test c bs parts.1)

cut_lacks_cons : (c b : ℕ) (bs word rest : List ℕ) (test : Bool) (inner : Option (List ℕ × List ℕ)) → (b == c) ≡ test → ((w r : List ℕ) → inner ≡ Some (w, r) → Lacks c w) → cond {A = Option (List ℕ × List ℕ)} test (Some ([], bs)) (option_map (λ cut. (b ∷ cut.0, cut.1)) inner) ≡ Some (word, rest) → Lacks c word
cut_lacks_cons c b bs word rest true inner t deeper h =
    let parts = some_pair_parts [] word bs rest h in
    subst (Lacks c) parts.0 tt
cut_lacks_cons c b bs word rest false None t deeper h = cc
cut_lacks_cons c b bs word rest false (Some cut) t deeper h =
    let parts = some_pair_parts (b ∷ cut.0) word cut.1 rest h in
    subst (Lacks c) parts.0 (t, deeper cut.0 cut.1 refl)

-- no separator stands before the cut
pub cut_at_lacks : (c : ℕ) (bytes word rest : List ℕ) → cut_at c bytes ≡ Some (word, rest) → Lacks c word
cut_at_lacks c [] word rest h = cc
cut_at_lacks c (b ∷ bs) word rest h = cut_lacks_cons c b bs word rest (b == c) (cut_at c bs) refl (λ w r e. cut_at_lacks c bs w r e) h

none_lacks_cons : (c b : ℕ) (bs : List ℕ) (test : Bool) (inner : Option (List ℕ × List ℕ)) → (b == c) ≡ test → (inner ≡ None → Lacks c bs) → cond {A = Option (List ℕ × List ℕ)} test (Some ([], bs)) (option_map (λ cut. (b ∷ cut.0, cut.1)) inner) ≡ None → Lacks c (b ∷ bs)
none_lacks_cons c b bs true inner t deeper h = cc
none_lacks_cons c b bs false (Some cut) t deeper h = cc
none_lacks_cons c b bs false None t deeper h = (t, deeper refl)

-- where there is no cut, there is no separator
pub cut_at_none : (c : ℕ) (bytes : List ℕ) → cut_at c bytes ≡ None → Lacks c bytes
cut_at_none c [] h = tt
cut_at_none c (b ∷ bs) h = none_lacks_cons c b bs (b == c) (cut_at c bs) refl (λ e. cut_at_none c bs e) h

pub split_at-append : (c : ℕ) (word rest : List ℕ) → Lacks c word → split_at c (word ++ c ∷ rest) ≡ word ∷ split_at c rest
split_at-append c [] rest lacks = let same = (Decides-eqb c c).1 refl in rw same refl
split_at-append c (b ∷ word) rest lacks = rw (lacks.0, split_at-append c word rest lacks.1) refl

pub split_at-whole : (c : ℕ) (word : List ℕ) → Lacks c word → split_at c word ≡ word ∷ []
split_at-whole c [] lacks = refl
split_at-whole c (b ∷ word) lacks = rw (lacks.0, split_at-whole c word lacks.1) refl

-- one turn of the splitting
pub split_at-cut : (c : ℕ) (bytes word rest : List ℕ) → cut_at c bytes ≡ Some (word, rest) → split_at c bytes ≡ word ∷ split_at c rest
split_at-cut c bytes word rest h =
    ap (split_at c) (cut_at_gives c bytes word rest h) ∙ split_at-append c word rest (cut_at_lacks c bytes word rest h)

pub split_at-none : (c : ℕ) (bytes : List ℕ) → cut_at c bytes ≡ None → split_at c bytes ≡ bytes ∷ []
split_at-none c bytes h = split_at-whole c bytes (cut_at_none c bytes h)

pub split_at-joined : (c : ℕ) (word : List ℕ) (words : List (List ℕ)) → AllLack c (word ∷ words) → split_at c (joined c (word ∷ words)) ≡ word ∷ words
split_at-joined c word [] lack = ap (split_at c) (append-nil word) ∙ split_at-whole c word lack.0
split_at-joined c word (other ∷ words) lack =
    split_at-append c word (joined c (other ∷ words)) lack.0 ∙ ap (λ xs. word ∷ xs) (split_at-joined c other words lack.1)

-- there is a first word
pub split_at-first : (c : ℕ) (bytes : List ℕ) → (word : List ℕ) × (words : List (List ℕ)) × (split_at c bytes ≡ word ∷ words)
split_at-first c [] = ([], [], refl)
split_at-first c (b ∷ bs) = choose (b == c) (split_at c bs)
  where
    choose : (test : Bool) (words : List (List ℕ)) → (first : List ℕ) × (more : List (List ℕ)) × (cond test ([] ∷ words) (before_first b words) ≡ first ∷ more)
    choose true words = ([], words, refl)
    choose false [] = (b ∷ [], [], refl)
    choose false (word ∷ words) = (b ∷ word, words, refl)

joined-cons : (c b : ℕ) (bs : List ℕ) (test : Bool) (words : List (List ℕ)) → (b == c) ≡ test → joined c words ≡ bs → ((word : List ℕ) × (more : List (List ℕ)) × (words ≡ word ∷ more)) → joined c (cond test ([] ∷ words) (before_first b words)) ≡ b ∷ bs
joined-cons c b bs true [] t e first = let clash = first.2 in cc
joined-cons c b bs true (word ∷ words) t e first = ap (λ xs. c ∷ xs) e ∙ ap (λ x. x ∷ bs) (sym ((Decides-eqb b c).0 t))
joined-cons c b bs false [] t e first = let clash = first.2 in cc
joined-cons c b bs false (word ∷ words) t e first = ap (λ xs. b ∷ xs) e

pub joined-split_at : (c : ℕ) (bytes : List ℕ) → joined c (split_at c bytes) ≡ bytes
joined-split_at c [] = refl
joined-split_at c (b ∷ bs) = joined-cons c b bs (b == c) (split_at c bs) refl (joined-split_at c bs) (split_at-first c bs)

pub Lacks-joined : (c d : ℕ) (words : List (List ℕ)) → (c == d) ≡ false → AllLack d words → Lacks d (joined c words)
Lacks-joined c d [] other lack = tt
Lacks-joined c d (word ∷ words) other lack = Lacks-append d word (flat_map (λ it. c ∷ it) words) lack.0 (behind words lack.1)
  where
    behind : (words : List (List ℕ)) → AllLack d words → Lacks d (flat_map (λ it. c ∷ it) words)
    behind [] lack = tt
    behind (word ∷ words) lack = (other, Lacks-append d word (flat_map (λ it. c ∷ it) words) lack.0 (behind words lack.1))

-- one turn of splitting, and its end
module _ {W : Type 0} (text : W → List ℕ) (c : ℕ) (items new : List W) (word : W) where
  map_push : new ≡ items ++ word ∷ [] → map text new ≡ map text items ++ text word ∷ []
  map_push e = ap (map text) e ∙ pushed items
    where
      pushed : (xs : List W) → map text (xs ++ word ∷ []) ≡ map text xs ++ text word ∷ []
      pushed [] = refl
      pushed (x ∷ xs) = ap (λ it. text x ∷ it) (pushed xs)

  pub split_turn : (rest behind bytes : List ℕ) → new ≡ items ++ word ∷ [] → Some (text word, behind) ≡ cut_at c rest → map text items ++ split_at c rest ≡ split_at c bytes → map text new ++ split_at c behind ≡ split_at c bytes
  split_turn rest behind bytes pushed cut so_far =
      ap (λ it. it ++ split_at c behind) (map_push pushed)
      ∙ (append_assoc (map text items) (text word ∷ []) (split_at c behind)
      ∙ (ap (λ it. map text items ++ it) (sym (split_at-cut c rest (text word) behind (sym cut))) ∙ so_far))

  pub split_end : (bytes : List ℕ) → new ≡ items ++ word ∷ [] → None ≡ cut_at c (text word) → map text items ++ split_at c (text word) ≡ split_at c bytes → map text new ≡ split_at c bytes
  split_end bytes pushed cut so_far =
      map_push pushed ∙ (ap (λ it. map text items ++ it) (sym (split_at-none c (text word) (sym cut))) ∙ so_far)
