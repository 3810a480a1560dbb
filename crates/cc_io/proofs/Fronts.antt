-- Lemmas on the front of a list that was moved so far, and on what two moves take together.
use Rattle.std.proofs.Common.{◌≡◌, ℕ, ◌+◌, ◌-◌, ◌≤◌, List, ◌++◌, Option, length, take, drop, sym, subst, arith, length-append, length-take, length-drop, take-append-drop}
use Rattle.std.proofs.lemmas.List.{drop-drop, take_at, take_all}
use Rattle.std.proofs.Math.Seq.{take-add}
use Rattle.std.proofs.KnownBytes.{Appends-trans, Consumes-trans}
use Rattle.std.specs.Io.KnownBytes.{Appends, Consumes}
use Rattle.cc_io.specs.Wholes.{TakesCount}

-- the rest of a list, cut at its own length, is the rest
pub rest_whole : (xs : List ℕ) (i : ℕ) → take (length xs - i) (drop i xs) ≡ drop i xs
rest_whole xs i = take_all (length xs - i) (drop i xs) (omega (arith, length-drop i xs))

-- a piece of the rest is appended behind the front
pub front_appended : (a b c : Option (List ℕ)) (xs : List ℕ) (i n : ℕ) → Appends a b (take i xs)
    → Appends b c (take n (take (length xs - i) (drop i xs))) → Appends a c (take (i + n) xs)
front_appended a b c xs i n p q =
    let joined : take i xs ++ take n (take (length xs - i) (drop i xs)) ≡ take (i + n) xs =
    rw (rest_whole xs i) (sym (take-add i n xs)) in
    subst (Appends a c) joined (Appends-trans a b c _ _ p q)

-- the front that was copied, and the rest behind it
pub front_copied : (xs ys : List ℕ) (i n : ℕ) → i + n ≤ length xs
    → drop i xs ≡ take n (take (i + n - i) (drop i xs) ++ ys) ++ drop (i + n) xs
front_copied xs ys i n h =
    let same : i + n - i ≡ n = omega arith in
    let full : length (take n (drop i xs)) ≡ n = omega (arith, length-take n (drop i xs), length-drop i xs) in
    let front : take n (take (i + n - i) (drop i xs) ++ ys) ≡ take n (drop i xs) = rw same (take_at (take n (drop i xs)) ys n full) in
    let rest : drop (i + n) xs ≡ drop n (drop i xs) = sym (drop-drop n i xs) in
    rw (front, rest) (sym (take-append-drop n (drop i xs)))

-- what two reads take one after the other
pub takes_both : (P : ℕ → Type 0) (a b c : Option (List ℕ)) (xs ys : List ℕ) → Consumes a b xs → Consumes b c ys
    → P (length xs + length ys) → TakesCount P a c
takes_both P a b c xs ys p q h = (xs ++ ys, Consumes-trans a b c xs ys p q, subst P (sym (length-append xs ys)) h)
