-- The loop over a text: the tokens so far, and what is found in the rest.
use Rattle.std.proofs.Common.{◌≡◌, ℕ, zero, suc, ◌+◌, ◌-◌, ◌<◌, Bool, true, false, cond, ◌||◌, ◌==◌, one-add, List, [], ◌∷◌, ◌++◌, take, drop, length, refl, sym, ap, ◌∙◌, arith, Option, Some, None, Ok, Err, encode_utf8, append_assoc, append-nil, length-drop, take-append-drop}
use Rattle.std.specs.Str.{chars, IsUtf8}
use Rattle.std.specs.List.{list_all, prefix_len}
use Rattle.std.proofs.lemmas.List.{length-take-le}
use Rattle.std.proofs.lemmas.List.Folds.{length-prefix_len, list_all-append}
use Rattle.std.proofs.lemmas.List.Sums.{prefix_len-le-length}
use Rattle.std.proofs.lemmas.Bool.Decides.{nat_tests}
use Rattle.std.proofs.lemmas.Str.{chars_past_char, IsUtf8-past_char}
use Rattle.cc_base.specs.declared.place.Place.{Place}
use Rattle.cc_lex.specs.declared.error.LexError.{LexError}
use Rattle.cc_lex.specs.declared.error.LexError.TheVariants.{Refused, NoMemory}
use Rattle.cc_lex.specs.declared.size.Size.{Size}
use Rattle.cc_lex.specs.declared.size.Class.TheVariants as classes
use Rattle.cc_lex.specs.Lexical.{is_white, place_after, place_past, start, byte_count, SpannedLexeme, ToTheEnd}
use Rattle.cc_lex.specs.Cutting.{blank_of, token_of, spanned_front, cut, stop, size_of, sized, joined, columns_past, stays_in_line, is_space, front_in, Finds, FindsFront, Gives}
use Rattle.cc_lex.proofs.CuttingLaws.{cut-jump, found-none}
use Rattle.cc_lex.proofs.TextFronts.{IsBehind, behind-front, chars-none, length-past}
use Rattle.cc_lex.proofs.Booleans.{both_true}
use Rattle.cc_lex.proofs.Sizes.{sized-blank, sized-no_blank, take-two, size-within}
use Rattle.cc_lex.proofs.Prefixes.{prefix-passes}
use Rattle.cc_lex.proofs.Blanks.{white-first}
use Rattle.cc_lex.proofs.InLines.{all-weaker, token-in_line, blank-in_line, place-in_line, place-append}

-- what begins with c

pub front-blank : (p : Place) (o c : ℕ) (cs : List ℕ) (ts : List SpannedLexeme) (blank : Option Size) (more : Size) → blank ≡ sized cs (blank_of c cs) → blank ≡ Some more → FindsFront p o c cs ts (Ok more) ts
front-blank p o c cs ts blank more e h =
    let found = sized-blank c cs blank more e h in
    (found.1, blank-in_line c cs more.characters found.0, rw found.0 refl)

-- white space, and what more of it is in the line

space-white : (c : ℕ) → is_space c ≡ true → is_white c ≡ true
space-white c h = white (c == 32) (c == 9) (c == 13) (c == 10) h
  where
    white : (a b d e : Bool) → (a || b || d) ≡ true → (a || b || d || e) ≡ true
    white true b d e h = refl
    white false true d e h = refl
    white false false true e h = refl
    white false false false e h = cc

space-stays : (c : ℕ) → is_space c ≡ true → stays_in_line c ≡ true
space-stays c h = grind (arith, nat_tests)

skip-one : (p : Place) (o c : ℕ) (cs : List ℕ) (b : Bool) → is_space c ≡ b → cut (prefix_len is_space cs) (place_after p c) (o + length (encode_utf8 c)) cs ≡ cut 0 (place_after p c) (o + length (encode_utf8 c)) cs → cut (cond b (1 + prefix_len is_space cs) 0) p o (c ∷ cs) ≡ cut 0 p o (c ∷ cs)
skip-one p o c cs true e h = rw (one-add, white-first c cs (space-white c e)) h
skip-one p o c cs false e h = refl

skip-spaces : (p : Place) (o : ℕ) (cs : List ℕ) → cut (prefix_len is_space cs) p o cs ≡ cut 0 p o cs
skip-spaces p o [] = refl
skip-spaces p o (c ∷ cs) = skip-one p o c cs (is_space c) refl (skip-spaces (place_after p c) (o + length (encode_utf8 c)) cs)

pub front-white : (p : Place) (o c : ℕ) (cs : List ℕ) (ts : List SpannedLexeme) (white : Bool) (more : Size) → white ≡ is_white c → white ≡ true → more ≡ size_of (front_in classes.Spaces cs) → FindsFront p o c cs ts (Ok more) ts
front-white p o c cs ts white more e h size =
    let n = prefix_len is_space cs in
    let count : more.characters ≡ n = ap (λ s. s.characters) size ∙ length-prefix_len is_space cs in
    let next = o + length (encode_utf8 c) in
    let blank = white-first c cs (sym e ∙ h) in
    let in_line : list_all stays_in_line (take n cs) ≡ true = all-weaker is_space stays_in_line space-stays (take n cs) (prefix-passes is_space cs) in
    let goes : cut 0 p o (c ∷ cs) ≡ cut n (place_after p c) next cs = white-goes p o c cs blank ∙ sym (skip-spaces (place_after p c) next cs) in (
      size ∙ ap (λ m. size_of (take m cs)) (sym count),
      ap (λ m. list_all stays_in_line (take m cs)) count ∙ in_line,
      ap (joined ts) goes ∙ ap (λ m. joined ts (cut m (place_after p c) next cs)) (sym count),
    )
  where
    white-goes : (p : Place) (o c : ℕ) (cs : List ℕ) → blank_of c cs ≡ Some 0 → cut 0 p o (c ∷ cs) ≡ cut 0 (place_after p c) (o + length (encode_utf8 c)) cs
    white-goes p o c cs h = rw h refl

pub front-token : (p : Place) (o c : ℕ) (cs : List ℕ) (ts us : List SpannedLexeme) (t : SpannedLexeme) (more : Size) → None ≡ sized cs (blank_of c cs) → token_of p o c cs ≡ Some (t, more.characters) → more ≡ size_of (take more.characters cs) → us ≡ ts ++ t ∷ [] → FindsFront p o c cs ts (Ok more) us
front-token p o c cs ts us t more e found size new =
    let none = sized-no_blank c cs e in
    (size, token-in_line p o c cs t more.characters found, rw (none, found, new, append_assoc) refl)

pub front-none : (p : Place) (o c : ℕ) (cs : List ℕ) (ts us : List SpannedLexeme) (error : LexError) → None ≡ sized cs (blank_of c cs) → Finds spanned_front p (Err error) (token_of p o c cs) → FindsFront p o c cs ts (Err error) us
front-none p o c cs ts us (Refused diag) e found = (found.1, found-none p o c cs (sized-no_blank c cs e) found.0)
front-none p o c cs ts us NoMemory e found = tt

-- a token, and the spaces behind it

abbrev added : ℕ → ℕ → ℕ
added zero m = m
added (suc n) m = suc (added n m)

added-is : (n m : ℕ) → added n m ≡ n + m
added-is zero m = let all : m ≡ 0 + m = omega arith in all
added-is (suc n) m = let rest = added-is n m in omega arith

skip-behind : (n : ℕ) (p : Place) (o : ℕ) (cs : List ℕ) → cut (added n (prefix_len is_space (drop n cs))) p o cs ≡ cut n p o cs
skip-behind zero p o cs = skip-spaces p o cs
skip-behind (suc n) p o [] = refl
skip-behind (suc n) p o (c ∷ cs) = skip-behind n (place_after p c) (o + length (encode_utf8 c)) cs

pub front-spaces :
    (p : Place) (o c : ℕ) (cs : List ℕ) (ts us : List SpannedLexeme) (front whole : Size) → FindsFront p o c cs ts (Ok front) us
    → whole ≡ size_of (take (front.characters + prefix_len is_space (drop front.characters cs)) cs) → FindsFront p o c cs ts (Ok whole) us
front-spaces p o c cs ts us front whole finds size =
    let n = front.characters in
    let ds = drop n cs in
    let m = prefix_len is_space ds in
    let next = o + length (encode_utf8 c) in
    let first = size-within cs front finds.0 in
    let behind = prefix_len-le-length is_space ds in
    let left = length-drop n cs in
    let count : whole.characters ≡ n + m = ap (λ s. s.characters) size ∙ length-take-le (n + m) cs (omega arith) in
    let parts = take-two n m cs first in
    let spaces : list_all stays_in_line (take m ds) ≡ true = all-weaker is_space stays_in_line space-stays (take m ds) (prefix-passes is_space ds) in
    let in_line : list_all stays_in_line (take (n + m) cs) ≡ true = ap (list_all stays_in_line) parts ∙ (list_all-append stays_in_line (take n cs) (take m ds) ∙ both_true (list_all stays_in_line (take n cs)) (list_all stays_in_line (take m ds)) finds.1 spaces) in
    let skips : cut n (place_after p c) next cs ≡ cut (n + m) (place_after p c) next cs = sym (skip-behind n (place_after p c) next cs) ∙ ap (λ i. cut i (place_after p c) next cs) (added-is n m) in (
      size ∙ ap (λ i. size_of (take i cs)) (sym count),
      ap (λ i. list_all stays_in_line (take i cs)) count ∙ in_line,
      finds.2 ∙ (ap (joined us) skips ∙ ap (λ i. joined us (cut i (place_after p c) next cs)) (sym count)),
    )

-- the loop

-- The rest of the text is left: the tokens so far and those of the rest are all of them, and the rest ends where the text
-- does.
pub record StandsAt (text : List ℕ) (ts : List SpannedLexeme) (p : Place) (o : ℕ) (rest : List ℕ) : Type 0 where
  pub found : joined ts (cut 0 p o (chars rest)) ≡ cut 0 start 0 (chars text)
  pub end : place_past p (chars rest) ≡ place_past start (chars text)
  pub text_left : IsUtf8 rest

pub begins : (text : List ℕ) (ts : List SpannedLexeme) → IsUtf8 text → ts ≡ [] → StandsAt text ts start 0 text
begins text ts u none = record { found = rw none refl; end = refl; text_left = u }

-- the text behind what more of it belongs to what begins with c
pub behind-more : (rest after : List ℕ) (c : ℕ) (more : Size) → IsUtf8 rest → rest ≡ encode_utf8 c ++ after → more ≡ size_of (take more.characters (chars after)) → IsBehind after more.characters more.bytes
behind-more rest after c more u e size = behind-front after more.characters more.bytes (IsUtf8-past_char rest after c u e) (ap (λ s. s.bytes) size)

pub step :
    (text : List ℕ) (ts us : List SpannedLexeme) (p q : Place) (o k c : ℕ) (rest after : List ℕ) (more : Size)
    → StandsAt text ts p o rest → rest ≡ encode_utf8 c ++ after → FindsFront p o c (chars after) ts (Ok more) us
    → q ≡ columns_past (place_after p c) more.characters → k ≡ (o + length (encode_utf8 c)) + more.bytes
    → StandsAt text us q k (drop more.bytes after)
step text ts us p q o k c rest after more at here finds places offsets =
    let cs = chars after in
    let n = more.characters in
    let next = o + length (encode_utf8 c) in
    let first : chars rest ≡ c ∷ cs = chars_past_char rest after c at.text_left here in
    let behind = behind-more rest after c more at.text_left here finds.0 in
    let count : length (take n cs) ≡ n = sym (ap (λ s. s.characters) finds.0) in
    let size : more.bytes ≡ byte_count (take n cs) = ap (λ s. s.bytes) finds.0 in
    let place : place_past (place_after p c) (take n cs) ≡ q = place-in_line (place_after p c) (take n cs) finds.1 ∙ (ap (columns_past (place_after p c)) count ∙ sym places) in
    let offset : next + byte_count (take n cs) ≡ k = ap (λ m. next + m) (sym size) ∙ sym offsets in
    let jump : cut n (place_after p c) next cs ≡ cut 0 q k (chars (drop more.bytes after)) = cut-jump cs n (place_after p c) next ∙ (ap (λ r. cut 0 r (next + byte_count (take n cs)) (drop n cs)) place ∙ (ap (λ i. cut 0 q i (drop n cs)) offset ∙ ap (cut 0 q k) (sym behind.behind))) in
    let ends : place_past q (chars (drop more.bytes after)) ≡ place_past p (c ∷ cs) = ap (place_past q) behind.behind ∙ (ap (λ r. place_past r (drop n cs)) (sym place) ∙ (place-append (place_after p c) (take n cs) (drop n cs) ∙ ap (place_past (place_after p c)) (take-append-drop n cs))) in
    record {
      found = ap (joined us) (sym jump) ∙ (sym finds.2 ∙ (ap (λ xs. joined ts (cut 0 p o xs)) (sym first) ∙ at.found));
      end = ends ∙ (ap (place_past p) (sym first) ∙ at.end);
      text_left = behind.text_behind;
    }

pub smaller : (rest after : List ℕ) (c k : ℕ) → rest ≡ encode_utf8 c ++ after → length (drop k after) < length rest
smaller rest after c k e =
    let less = length-past rest after c e in
    let left = length-drop k after in
    omega arith

pub gives-end : (text rest : List ℕ) (p : Place) (o : ℕ) (ts : List SpannedLexeme) → StandsAt text ts p o rest → length rest ≡ 0 → cut 0 start 0 (chars text) ≡ record { tokens = ts; extent = ToTheEnd }
gives-end text rest p o ts at e =
    let none = chars-none rest e in
    sym at.found ∙ (ap (λ cs. joined ts (cut 0 p o cs)) none ∙ ap (λ us. record { tokens = us; extent = ToTheEnd }) (append-nil ts))

pub ends-there : (text rest : List ℕ) (ts : List SpannedLexeme) (p : Place) (o : ℕ) → StandsAt text ts p o rest → length rest ≡ 0 → p ≡ place_past start (chars text)
ends-there text rest ts p o at e = ap (place_past p) (sym (chars-none rest e)) ∙ at.end

pub gives-error : (text rest after : List ℕ) (ts us : List SpannedLexeme) (p : Place) (o c : ℕ) (error : LexError) → StandsAt text ts p o rest → rest ≡ encode_utf8 c ++ after → FindsFront p o c (chars after) ts (Err error) us → Gives (Err error) (cut 0 start 0 (chars text))
gives-error text rest after ts us p o c (Refused diag) at here finds =
    let first : chars rest ≡ c ∷ chars after = chars_past_char rest after c at.text_left here in
    let found : cut 0 start 0 (chars text) ≡ joined ts (stop p) = sym at.found ∙ (ap (λ xs. joined ts (cut 0 p o xs)) first ∙ ap (joined ts) finds.1) in
    rw finds.0 (refl, ap (λ x. x.extent) found)
gives-error text rest after ts us p o c NoMemory at here finds = tt
