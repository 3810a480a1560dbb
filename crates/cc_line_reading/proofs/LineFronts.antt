-- What is taken up to a line feed.
use Rattle.std.proofs.Common.{◌≡◌, ℕ, zero, suc, ◌+◌, ◌-◌, ◌≤◌, Bool, List, [], ◌∷◌, ◌++◌, length, take, drop, Some, None, Err, refl, sym, ap, ◌∙◌, arith, drop-drop, length-append}
use Rattle.std.proofs.lemmas.List.{drop-take}
use Rattle.std.proofs.Math.Seq.{drop-append-add}
use Rattle.cc_io.specs.declared.whole.ReadAll.{ReadAll}
use Rattle.cc_io.specs.declared.whole.ReadAll.TheVariants as read_errors
use Rattle.cc_line_reading.specs.LineReading.{Held, PutsWithin, PutsFront}
use Rattle.cc_words.specs.Words.{cut_at}
use Rattle.cc_words.proofs.Steps.{Lacks, cut_at_gives}
use Rattle.cc_words.proofs.Splits.{cut_at_lacks}

-- where a byte is lacking, nothing is cut
pub cut_lacking : (c : ℕ) (bytes : List ℕ) → Lacks c bytes → cut_at c bytes ≡ None
cut_lacking c [] lacks = refl
cut_lacking c (b ∷ bs) lacks = rw (lacks.0, cut_lacking c bs lacks.1) refl

take_less : (n : ℕ) (bytes : List ℕ) → length (take n bytes) ≤ n
take_less zero bytes = omega arith
take_less (suc n) [] = omega arith
take_less (suc n) (b ∷ bytes) = omega (arith, take_less n bytes)

dropped : (front rest : List ℕ) (n : ℕ) → n ≡ length front + 1 → drop n (front ++ 10 ∷ rest) ≡ rest
dropped front rest n is = ap (λ it. drop it (front ++ 10 ∷ rest)) is ∙ drop-append-add front (10 ∷ rest) 1

-- what stands between two places
abbrev pub between : ℕ → ℕ → List ℕ → List ℕ
between from to items = take (to - from) (drop from items)

-- that is what stands before the first line feed there, that one, and what stands behind it
pub record Front (items : List ℕ) (from to : ℕ) (front : List ℕ) : Type 0 where
  pub no_feed : cut_at 10 front ≡ None
  pub split : between from to items ≡ front ++ 10 ∷ between (from + (length front + 1)) to items
  pub within : from + (length front + 1) ≤ to

-- from a place further on
further : (items : List ℕ) (from to n : ℕ) → from + n ≤ to → drop n (between from to items) ≡ between (from + n) to items
further items from to n low =
    let both : to - from ≡ n + (to - (from + n)) = omega (arith, low) in
    ap (λ it. drop n (take it (drop from items))) both ∙ drop-take n (to - (from + n)) (drop from items)
    ∙ ap (take (to - (from + n))) (drop-drop n from items)

pub front_cut : (items : List ℕ) (from to : ℕ) (front rest : List ℕ) → from ≤ to
    → cut_at 10 (between from to items) ≡ Some (front, rest) → Front items from to front
front_cut items from to front rest low is =
    let split = cut_at_gives 10 (between from to items) front rest is in
    let within : from + (length front + 1) ≤ to =
    omega (arith, ap length split, length-append front (10 ∷ rest), take_less (to - from) (drop from items), low) in
    let behind : between (from + (length front + 1)) to items ≡ rest =
    sym (further items from to (length front + 1) within) ∙ ap (drop (length front + 1)) split ∙ dropped front rest (length front + 1) refl in
    record {
      no_feed = cut_lacking 10 front (cut_at_lacks 10 (between from to items) front rest is);
      split = split ∙ ap (λ it. front ++ 10 ∷ it) (sym behind);
      within = within;
    }

-- nothing stands between a place and itself
pub none_held : (now : Held) (items : List ℕ) (from to : ℕ) (ended : Bool) → from ≡ 0 → to ≡ 0 → now.bytes ≡ [] → ended ≡ now.ended
    → record { bytes = between from to items; ended = ended } ≡ now
none_held now items from to ended first last none same = rw (first, last, sym none, same) refl

-- nothing was taken where the front was not put
pub put_failed : (held : Held) (line put front rest : List ℕ) (limit : ℕ) (error : ReadAll) → cut_at 10 front ≡ None
    → held.bytes ≡ front ++ rest → PutsWithin line put front limit (Err error) → PutsFront held held line put limit (Err error)
put_failed held line put front rest limit read_errors.ReadFault feed is fails = absurd fails
put_failed held line put front rest limit read_errors.TooLong feed is fails = (front, rest, feed, is, fails)
put_failed held line put front rest limit read_errors.NoMemory feed is fails = refl
