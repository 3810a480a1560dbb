-- A text cut behind some of its characters.
use Rattle.std.proofs.Common.{◌≡◌, ℕ, suc, ◌+◌, ◌-◌, ◌≤◌, ◌<◌, true, List, [], ◌∷◌, ◌++◌, length, take, drop, sym, ap, ◌∙◌, arith, encode_utf8, length-append, take-append-drop}
use Rattle.std.specs.Str.{chars, IsUtf8, IsCharBoundary, all_scalars}
use Rattle.std.proofs.lemmas.List.{take_at, drop_at, nil_from_length}
use Rattle.std.proofs.lemmas.Str.{encodes-append, chars-encodes, encodes-chars, scalars-chars, chars_past_char, chars-nil, IsCharBoundary-from_drop}
use Rattle.cc_lex.specs.Lexical.{byte_count}
use Rattle.cc_lex.proofs.CuttingLaws.{offset-cons}
use Rattle.cc_lex.proofs.TextSlices.{scalars-parts, some-byte}
use lib.Utf8.{encodes}

-- the text may be cut at k, which is behind its first n characters
pub record IsBehind (bs : List ℕ) (n k : ℕ) : Type 0 where
  pub within : k ≤ length bs
  pub boundary : IsCharBoundary bs k
  pub before : chars (take k bs) ≡ take n (chars bs)
  pub behind : chars (drop k bs) ≡ drop n (chars bs)
  pub text_behind : IsUtf8 (drop k bs)

pub behind-front : (bs : List ℕ) (n k : ℕ) → IsUtf8 bs → k ≡ byte_count (take n (chars bs)) → IsBehind bs n k
behind-front bs n k u e =
    let xs = take n (chars bs) in
    let ys = drop n (chars bs) in
    let joined : xs ++ ys ≡ chars bs = take-append-drop n (chars bs) in
    let whole : encodes xs ++ encodes ys ≡ bs = sym (encodes-append xs ys) ∙ (ap encodes joined ∙ encodes-chars bs u) in
    let each : all_scalars (xs ++ ys) ≡ true = ap all_scalars joined ∙ scalars-chars bs u in
    let parts = scalars-parts xs ys each in
    let front : take k bs ≡ encodes xs = ap (take k) (sym whole) ∙ take_at (encodes xs) (encodes ys) k (sym e) in
    let back : drop k bs ≡ encodes ys = ap (drop k) (sym whole) ∙ drop_at (encodes xs) (encodes ys) k (sym e) in
    let text_behind : IsUtf8 (drop k bs) = (ys, (parts.1, sym back)) in
    let sizes = length-append (encodes xs) (encodes ys) in
    let all = ap length whole in
    let fits : k ≤ length bs = omega arith in
    record {
      within = fits;
      boundary = IsCharBoundary-from_drop bs k fits text_behind;
      before = ap chars front ∙ chars-encodes xs parts.0;
      behind = ap chars back ∙ chars-encodes ys parts.1;
      text_behind = text_behind;
    }

pub chars-none : (bs : List ℕ) → length bs ≡ 0 → chars bs ≡ []
chars-none bs e = ap chars (nil_from_length bs e) ∙ chars-nil

pub length-past : (bs after : List ℕ) (c : ℕ) → bs ≡ encode_utf8 c ++ after → length after < length bs
length-past bs after c e =
    let some = some-byte c in
    let sizes = length-append (encode_utf8 c) after in
    let all = ap length e in
    omega arith

-- the bytes of a text between two offsets are its first character and n more
pub record IsFrontSlice (bs : List ℕ) (c : ℕ) (cs : List ℕ) (start end : ℕ) : Type 0 where
  pub ordered : start ≤ end
  pub boundary : IsCharBoundary bs (end - start)
  pub spelled : chars (take (end - start) bs) ≡ c ∷ cs
  pub count : end ≡ start + byte_count (c ∷ cs)

pub front-slice :
    (bs after : List ℕ) (c n start end : ℕ) → IsUtf8 bs → bs ≡ encode_utf8 c ++ after
    → end ≡ (start + length (encode_utf8 c)) + byte_count (take n (chars after))
    → IsFrontSlice bs c (take n (chars after)) start end
front-slice bs after c n start end u e h =
    let here : chars bs ≡ c ∷ chars after = chars_past_char bs after c u e in
    let count : end ≡ start + byte_count (c ∷ take n (chars after)) = h ∙ sym (offset-cons start c (take n (chars after))) in
    let front : take (suc n) (chars bs) ≡ c ∷ take n (chars after) = ap (take (suc n)) here in
    let bytes : end - start ≡ byte_count (c ∷ take n (chars after)) = omega arith in
    let at = behind-front bs (suc n) (end - start) u (bytes ∙ ap byte_count (sym front)) in
    record { ordered = omega arith; boundary = at.boundary; spelled = at.before ∙ front; count = count }
