-- The text between the quotes of a string, as bytes and as characters.
use Rattle.std.proofs.Common.{◌≡◌, ℕ, ◌-◌, ◌≤◌, true, List, [], ◌∷◌, ◌++◌, length, take, drop, get_or, refl, sym, ap, ◌∙◌, arith, length-append}
use Rattle.std.specs.Str.{chars, IsUtf8, IsCharBoundary}
use Rattle.std.proofs.lemmas.List.{take_at, get_or_at}
use Rattle.std.proofs.lemmas.Str.{encodes-append, encodes-chars, chars-encodes, scalars-chars, IsCharBoundary-before_ascii, IsCharBoundary-after_ascii}
use Rattle.cc_lex.specs.declared.form.Form.TheVariants as forms
use Rattle.cc_lex.specs.Forms.{IsOfForm}
use Rattle.cc_lex.specs.Cutting.{inside}
use Rattle.cc_lex.proofs.Booleans.{both}
use lib.Utf8.{encode, scalar, scalars, encodes}

-- the bytes of a string, and its text's
pub record IsQuoted (bs : List ℕ) : Type 0 where
  pub text : List ℕ
  pub spelled : chars bs ≡ 34 ∷ text ++ 34 ∷ []
  pub bytes : bs ≡ 34 ∷ (encodes text ++ 34 ∷ [])
  pub scalar_text : scalars text ≡ true

scalars-front : (xs ys : List ℕ) → scalars (xs ++ ys) ≡ true → scalars xs ≡ true
scalars-front [] ys h = refl
scalars-front (x ∷ xs) ys h =
    let each = both (scalar x) (scalars (xs ++ ys)) h in
    let rest = scalars-front xs ys each.1 in
    cc

encodes-quoted : (text : List ℕ) → encodes (34 ∷ text ++ 34 ∷ []) ≡ 34 ∷ (encodes text ++ 34 ∷ [])
unfolding encode
encodes-quoted text = ap (λ xs. 34 ∷ xs) (encodes-append text (34 ∷ []))

quoted-as : (bs text : List ℕ) → chars bs ≡ 34 ∷ text ++ 34 ∷ [] → scalars (chars bs) ≡ true → bs ≡ encodes (chars bs) → IsQuoted bs
quoted-as bs text spelled scalar_all whole =
    let good : scalars (34 ∷ (text ++ 34 ∷ [])) ≡ true = rw spelled at scalar_all in
    record {
      text = text;
      spelled = spelled;
      bytes = whole ∙ (ap encodes spelled ∙ encodes-quoted text);
      scalar_text = scalars-front text (34 ∷ []) (both (scalar 34) (scalars (text ++ 34 ∷ [])) good).1;
    }

pub quoted : (bs : List ℕ) → IsUtf8 bs → IsOfForm forms.Text (chars bs) → IsQuoted bs
quoted bs u h = quoted-as bs h.0 h.1.0 (scalars-chars bs u) (sym (encodes-chars bs u))

-- where the text between the quotes may be cut

pub quoted-length : (bs : List ℕ) → IsQuoted bs → 2 ≤ length bs
quoted-length bs q =
    let all = ap length q.bytes in
    let parts = length-append (encodes q.text) (34 ∷ []) in
    omega arith

pub quoted-start : (bs : List ℕ) → IsUtf8 bs → IsQuoted bs → IsCharBoundary bs 1
quoted-start bs u q =
    let long = quoted-length bs q in
    let first : get_or bs 0 0 ≡ 34 = ap (λ xs. get_or xs 0 0) q.bytes in
    IsCharBoundary-after_ascii bs 0 u (omega arith) (omega arith)

pub quoted-end : (bs : List ℕ) → IsQuoted bs → IsCharBoundary bs (length bs - 1)
quoted-end bs q =
    let long = quoted-length bs q in
    let parts = length-append (34 ∷ encodes q.text) (34 ∷ []) in
    let all : length bs ≡ length ((34 ∷ encodes q.text) ++ 34 ∷ []) = ap length q.bytes in
    let at : length (34 ∷ encodes q.text) ≡ length bs - 1 = omega arith in
    let last : get_or bs (length bs - 1) 0 ≡ 34 = ap (λ xs. get_or xs (length bs - 1) 0) q.bytes ∙ get_or_at (34 ∷ encodes q.text) 34 [] 0 (length bs - 1) at in
    IsCharBoundary-before_ascii bs (length bs - 1) (omega arith) (omega arith)

between : (ys xs : List ℕ) (n : ℕ) → ys ≡ 34 ∷ (xs ++ 34 ∷ []) → length xs ≡ n → take n (drop 1 ys) ≡ xs
between ys xs n e h = ap (λ zs. take n (drop 1 zs)) e ∙ take_at xs (34 ∷ []) n h

pub chars-inside : (bs inner : List ℕ) → IsQuoted bs → inner ≡ take (length bs - 1 - 1) (drop 1 bs) → chars inner ≡ inside (chars bs)
chars-inside bs inner q e =
    let bytes = ap length q.bytes in
    let parts = length-append (encodes q.text) (34 ∷ []) in
    let count = ap length q.spelled in
    let places = length-append q.text (34 ∷ []) in
    let left : inner ≡ encodes q.text = e ∙ between bs (encodes q.text) (length bs - 1 - 1) q.bytes (omega arith) in
    let right : inside (chars bs) ≡ q.text = between (chars bs) q.text (length (chars bs) - 2) q.spelled (omega arith) in
    ap chars left ∙ (chars-encodes q.text q.scalar_text ∙ sym right)
