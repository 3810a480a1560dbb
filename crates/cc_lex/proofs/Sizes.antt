-- The sizes of fronts of a text.
use Rattle.std.proofs.Common.{◌≡◌, ℕ, ◌+◌, ◌-◌, ◌≤◌, ◌<◌, Bool, true, false, cond, ◌&&◌, ◌==◌, nat_le, ltb, List, [], ◌∷◌, ◌++◌, length, take, drop, refl, sym, ap, ◌∙◌, arith, Option, Some, None, length-append, append_assoc, append-nil, take-append-drop}
use Rattle.std.specs.Str.{chars, IsUtf8}
use Rattle.std.specs.List.{list_all, prefix_len}
use Rattle.std.proofs.lemmas.List.{take_at, length_push, length-take-le}
use Rattle.std.proofs.Math.Seq.{take-append-add}
use Rattle.std.proofs.lemmas.List.Folds.{length-prefix_len, list_all-append}
use Rattle.std.proofs.lemmas.Str.{encodes-append, encodes-chars, encode_ascii, chars_past_char, IsUtf8-past_char, length-le-encodes}
use Rattle.std.proofs.lemmas.Bool.Decides.{nat_tests, Decides-ltb}
use Rattle.cc_base.specs.Names.{first_passes}
use Rattle.cc_lex.specs.declared.size.Size.{Size}
use Rattle.cc_lex.specs.declared.size.Class.{Class}
use Rattle.cc_lex.specs.declared.size.Class.TheVariants as classes
use Rattle.cc_lex.specs.declared.form.Form.{Form}
use Rattle.cc_lex.specs.declared.form.Form.TheVariants as forms
use Rattle.cc_lex.specs.declared.token.Symbol.{Symbol}
use Rattle.cc_lex.specs.declared.token.Symbol.TheVariants as symbols
use Rattle.cc_lex.specs.Forms.{symbol_text, stands_in_string}
use Rattle.cc_lex.specs.Lexical.{byte_count}
use Rattle.cc_lex.specs.Cutting.{Front, front_of, blank_of, pair_symbol, long_symbol, symbol_front, string_front, size_of, sized, sized_front, is_in, is_space, front_in, IsPastOne}
use Rattle.cc_lex.proofs.Booleans.{both_true}
use Rattle.cc_lex.proofs.Constructors.{some_is, none_is_some}
use Rattle.cc_lex.proofs.Prefixes.{prefix-exact}
use Rattle.cc_lex.proofs.Fronts.{cut-at, pair-text}
use Rattle.cc_lex.proofs.LongestForms.{front-good}
use Rattle.cc_lex.proofs.Blanks.{IsBlankFound, blank_of-found}
use Rattle.cc_lex.proofs.TextFronts.{IsBehind, behind-front, length-past}
use lib.Utf8.{encode, encodes}

-- the loop over characters of a class

-- the first n characters of the text are of the class, and the rest is left
pub record IsRead (class : Class) (text rest : List ℕ) (n : ℕ) : Type 0 where
  pub read : List ℕ
  pub passes : list_all (is_in class) read ≡ true
  pub whole : chars text ≡ read ++ chars rest
  pub bytes : text ≡ encodes read ++ rest
  pub count : n ≡ length read
  pub text_left : IsUtf8 rest

pub read-none : (class : Class) (text : List ℕ) → IsUtf8 text → IsRead class text text 0
read-none class text u = record { read = []; passes = refl; whole = refl; bytes = refl; count = refl; text_left = u }

encodes-push : (cs : List ℕ) (c : ℕ) → encodes (cs ++ c ∷ []) ≡ encodes cs ++ encode c
encodes-push cs c = encodes-append cs (c ∷ []) ∙ ap (λ bs. encodes cs ++ bs) (append-nil (encode c))

all-push : (p : ℕ → Bool) (cs : List ℕ) (c : ℕ) → list_all p cs ≡ true → p c ≡ true → list_all p (cs ++ c ∷ []) ≡ true
all-push p cs c h k = list_all-append p cs (c ∷ []) ∙ both_true (list_all p cs) (list_all p (c ∷ [])) h (both_true (p c) true k refl)

pub read-more : (class : Class) (text rest behind : List ℕ) (n : ℕ) → IsRead class text rest n → IsPastOne class rest (Some behind) → IsRead class text behind (n + 1)
read-more class text rest behind n at past =
    let c = past.0 in
    let here = past.1 in
    let first : chars rest ≡ c ∷ chars behind = chars_past_char rest behind c at.text_left here in
    record {
      read = at.read ++ c ∷ [];
      passes = all-push (is_in class) at.read c at.passes past.2;
      whole = at.whole ∙ (ap (λ cs. at.read ++ cs) first ∙ sym (append_assoc at.read (c ∷ []) (chars behind)));
      bytes = at.bytes ∙ (ap (λ bs. encodes at.read ++ bs) here ∙ (sym (append_assoc (encodes at.read) (encode c) behind) ∙ ap (λ bs. bs ++ behind) (sym (encodes-push at.read c))));
      count = ap (λ m. m + 1) at.count ∙ sym (length_push at.read c);
      text_left = IsUtf8-past_char rest behind c at.text_left here;
    }

pub read-smaller : (class : Class) (rest behind : List ℕ) → IsPastOne class rest (Some behind) → length behind < length rest
read-smaller class rest behind past = length-past rest behind past.0 past.1

pub read-within : (class : Class) (text rest : List ℕ) (n : ℕ) → IsRead class text rest n → n + length rest ≤ length text
read-within class text rest n at =
    let sizes = length-append (encodes at.read) rest in
    let all = ap length at.bytes in
    let few = length-le-encodes at.read in
    let count = at.count in
    omega arith

pub read-room : (class : Class) (text rest behind : List ℕ) (n : ℕ) → IsRead class text rest n → IsPastOne class rest (Some behind) → n + 1 ≤ length text
read-room class text rest behind n at past =
    let within = read-within class text rest n at in
    let less = read-smaller class rest behind past in
    omega arith

pub read-all :
    (class : Class) (text rest : List ℕ) (n w : ℕ) → IsRead class text rest n → IsPastOne class rest None → w ≡ length text
    → record { characters = n; bytes = w - length rest } ≡ size_of (front_in class (chars text))
read-all class text rest n w at past e =
    let exact = prefix-exact (is_in class) at.read (chars rest) at.passes past in
    let front : front_in class (chars text) ≡ at.read = ap (front_in class) at.whole ∙ take_at at.read (chars rest) (prefix_len (is_in class) (at.read ++ chars rest)) (sym exact) in
    let sizes = length-append (encodes at.read) rest in
    let all = ap length at.bytes in
    let bytes : w - length rest ≡ byte_count at.read = omega arith in
    rw (front, at.count, bytes) refl

-- a front with the spaces behind it

pub take-two : (n m : ℕ) (cs : List ℕ) → n ≤ length cs → take (n + m) cs ≡ take n cs ++ take m (drop n cs)
take-two n m cs l =
    ap (take (n + m)) (sym (take-append-drop n cs))
    ∙ (ap (λ k. take (k + m) (take n cs ++ drop n cs)) (sym (length-take-le n cs l)) ∙ take-append-add (take n cs) (drop n cs) m)

-- the size of the first n characters has them all
pub size-within : (cs : List ℕ) (front : Size) → front ≡ size_of (take front.characters cs) → front.characters ≤ length cs
size-within cs front e =
    let count : front.characters ≡ length (take front.characters cs) = ap (λ s. s.characters) e in
    let sizes = length-append (take front.characters cs) (drop front.characters cs) in
    let all = ap length (take-append-drop front.characters cs) in
    omega arith

-- the sum of both sizes is one of a front of the text, and not beyond it
pub record IsWithSpaces (after : List ℕ) (front spaces : Size) : Type 0 where
  pub characters : front.characters + spaces.characters ≤ length after
  pub bytes : front.bytes + spaces.bytes ≤ length after
  pub size : record { characters = front.characters + spaces.characters; bytes = front.bytes + spaces.bytes }
      ≡ size_of (take (front.characters + prefix_len is_space (drop front.characters (chars after))) (chars after))

pub with-spaces :
    (after : List ℕ) (front spaces : Size) → IsUtf8 after → front ≡ size_of (take front.characters (chars after))
    → spaces ≡ size_of (front_in classes.Spaces (chars (drop front.bytes after))) → IsWithSpaces after front spaces
with-spaces after front spaces u e h =
    let cs = chars after in
    let n = front.characters in
    let ds = drop n cs in
    let m = prefix_len is_space ds in
    let at = behind-front after n front.bytes u (ap (λ s. s.bytes) e) in
    let behind : spaces ≡ size_of (take m ds) = h ∙ ap (λ xs. size_of (front_in classes.Spaces xs)) at.behind in
    let whole = take-two n m cs (size-within cs front e) in
    let lengths = length-append (take n cs) (take m ds) in
    let length_whole = ap length whole in
    let front_count : n ≡ length (take n cs) = ap (λ s. s.characters) e in
    let spaces_count : spaces.characters ≡ length (take m ds) = ap (λ s. s.characters) behind in
    let front_bytes : front.bytes ≡ byte_count (take n cs) = ap (λ s. s.bytes) e in
    let spaces_bytes : spaces.bytes ≡ byte_count (take m ds) = ap (λ s. s.bytes) behind in
    let characters : n + spaces.characters ≡ length (take (n + m) cs) = omega arith in
    let byte_parts : byte_count (take (n + m) cs) ≡ byte_count (take n cs) + byte_count (take m ds) = ap byte_count whole ∙ (ap length (encodes-append (take n cs) (take m ds)) ∙ length-append (encodes (take n cs)) (encodes (take m ds))) in
    let bytes : front.bytes + spaces.bytes ≡ byte_count (take (n + m) cs) = omega arith in
    let text_parts : byte_count cs ≡ byte_count (take (n + m) cs) + byte_count (drop (n + m) cs) = ap byte_count (sym (take-append-drop (n + m) cs)) ∙ (ap length (encodes-append (take (n + m) cs) (drop (n + m) cs)) ∙ length-append (encodes (take (n + m) cs)) (encodes (drop (n + m) cs))) in
    let text_bytes : byte_count cs ≡ length after = ap length (encodes-chars after u) in
    let few = length-le-encodes (take (n + m) cs) in
    record {
      characters = omega arith;
      bytes = omega arith;
      size = λ j. record { characters = characters j; bytes = bytes j };
    }

-- what is sized

sized-some-of : (c : ℕ) (cs : List ℕ) (front : Option Front) (form : Form) (more : Size) → front_of c cs ≡ front → Some (form, more) ≡ sized_front cs front → (front_of c cs ≡ Some (form, more.characters)) × (more ≡ size_of (take more.characters cs))
sized-some-of c cs None form more e h = cc
sized-some-of c cs (Some front) form more e h =
    let same : (form, more) ≡ (front.0, size_of (take front.1 cs)) = some_is (form, more) (front.0, size_of (take front.1 cs)) h in
    let size : more ≡ size_of (take front.1 cs) = ap (λ x. x.1) same in
    let fits = (front-good c cs front e).0 in
    let count : more.characters ≡ front.1 = ap (λ s. s.characters) size ∙ length-take-le front.1 cs fits in
    let parts : front ≡ (form, more.characters) = (λ j. (ap (λ x. x.0) (sym same) j, sym count j)) in
    (e ∙ ap Some parts, size ∙ ap (λ n. size_of (take n cs)) (sym count))

pub sized-some : (c : ℕ) (cs : List ℕ) (o : Option (Form × Size)) (form : Form) (more : Size) → o ≡ sized_front cs (front_of c cs) → o ≡ Some (form, more) → (front_of c cs ≡ Some (form, more.characters)) × (more ≡ size_of (take more.characters cs))
sized-some c cs o form more e h = sized-some-of c cs (front_of c cs) form more refl (sym h ∙ e)

sized-none-of : (cs : List ℕ) (front : Option Front) → None ≡ sized_front cs front → front ≡ None
sized-none-of cs None h = refl
sized-none-of cs (Some front) h = cc

pub sized-none : (c : ℕ) (cs : List ℕ) → None ≡ sized_front cs (front_of c cs) → front_of c cs ≡ None
sized-none c cs e = sized-none-of cs (front_of c cs) e

blank-some-of : (c : ℕ) (cs : List ℕ) (blank : Option ℕ) (more : Size) → blank_of c cs ≡ blank → Some more ≡ sized cs blank → (blank_of c cs ≡ Some more.characters) × (more ≡ size_of (take more.characters cs))
blank-some-of c cs None more e h = cc
blank-some-of c cs (Some n) more e h =
    let size : more ≡ size_of (take n cs) = some_is more (size_of (take n cs)) h in
    let found : IsBlankFound c cs (Some n) = (let all = blank_of-found c cs in rw e at all) in
    let count : more.characters ≡ n = ap (λ s. s.characters) size ∙ length-take-le n cs found.0 in
    (e ∙ ap Some (sym count), size ∙ ap (λ m. size_of (take m cs)) (sym count))

pub sized-blank : (c : ℕ) (cs : List ℕ) (o : Option Size) (more : Size) → o ≡ sized cs (blank_of c cs) → o ≡ Some more → (blank_of c cs ≡ Some more.characters) × (more ≡ size_of (take more.characters cs))
sized-blank c cs o more e h = blank-some-of c cs (blank_of c cs) more refl (sym h ∙ e)

blank-none-of : (cs : List ℕ) (blank : Option ℕ) → None ≡ sized cs blank → blank ≡ None
blank-none-of cs None h = refl
blank-none-of cs (Some n) h = cc

pub sized-no_blank : (c : ℕ) (cs : List ℕ) → None ≡ sized cs (blank_of c cs) → blank_of c cs ≡ None
sized-no_blank c cs e = blank-none-of cs (blank_of c cs) e

-- strings

-- the text behind what may stand in a string
pub string-behind : (after : List ℕ) (inside : Size) → IsUtf8 after → inside ≡ size_of (front_in classes.Strings (chars after)) → IsBehind after (prefix_len stands_in_string (chars after)) inside.bytes
string-behind after inside u e = behind-front after (prefix_len stands_in_string (chars after)) inside.bytes u (ap (λ s. s.bytes) e)

inside-count : (cs : List ℕ) (inside : Size) → inside ≡ size_of (front_in classes.Strings cs) → inside.characters ≡ prefix_len stands_in_string cs
inside-count cs inside e = ap (λ s. s.characters) e ∙ length-prefix_len stands_in_string cs

no-quote : (cs : List ℕ) (a b : Bool) → b ≡ false → None ≡ sized_front cs (cond (a && b) (Some (forms.Text, prefix_len stands_in_string cs + 1)) None)
no-quote cs true true h = cc
no-quote cs true false h = refl
no-quote cs false b h = refl

pub not-closed : (after : List ℕ) (inside : Size) → IsUtf8 after → inside ≡ size_of (front_in classes.Strings (chars after)) → first_passes (λ c. c == 34) (chars (drop inside.bytes after)) ≡ false → None ≡ sized_front (chars after) (string_front (chars after))
not-closed after inside u e h =
    let cs = chars after in
    let at = string-behind after inside u e in
    no-quote cs (nat_le (prefix_len stands_in_string cs) 200) (first_passes (λ c. c == 34) (drop (prefix_len stands_in_string cs) cs)) (ap (first_passes (λ c. c == 34)) (sym at.behind) ∙ h)

one-quote : length (encodes (34 ∷ [])) ≡ 1
unfolding encode
one-quote = refl

pub closed :
    (after : List ℕ) (inside : Size) (m k : ℕ) → IsUtf8 after → inside ≡ size_of (front_in classes.Strings (chars after))
    → inside.characters ≤ 200 → first_passes (λ c. c == 34) (chars (drop inside.bytes after)) ≡ true
    → m ≡ inside.characters + 1 → k ≡ inside.bytes + 1
    → Some (forms.Text, record { characters = m; bytes = k }) ≡ sized_front (chars after) (string_front (chars after))
closed after inside m k u e l h count bytes =
    let cs = chars after in
    let n = prefix_len stands_in_string cs in
    let at = string-behind after inside u e in
    let quote : first_passes (λ c. c == 34) (drop n cs) ≡ true = ap (first_passes (λ c. c == 34)) (sym at.behind) ∙ h in
    let front = (cut-at cs n quote).1 in
    let same = inside-count cs inside e in
    let short : nat_le n 200 ≡ true = grind (arith, nat_tests) in
    let parts = ap length (encodes-append (take n cs) (34 ∷ [])) ∙ length-append (encodes (take n cs)) (encodes (34 ∷ [])) in
    let quoted : length (encodes (34 ∷ [])) ≡ 1 = one-quote in
    let before : inside.bytes ≡ byte_count (take n cs) = ap (λ s. s.bytes) e in
    let all : byte_count (take (n + 1) cs) ≡ byte_count (take n cs ++ 34 ∷ []) = ap byte_count front in
    let characters : m ≡ length (take (n + 1) cs) = count ∙ (ap (λ i. i + 1) (same ∙ sym (length-prefix_len stands_in_string cs)) ∙ (sym (length_push (take n cs) 34) ∙ ap length (sym front))) in
    let size_bytes : k ≡ byte_count (take (n + 1) cs) = omega arith in
    let whole : record { characters = m; bytes = k } ≡ size_of (take (n + 1) cs) = (λ j. record { characters = characters j; bytes = size_bytes j }) in
    rw (short, quote) (ap (λ size. Some (forms.Text, size)) whole)

-- symbols

abbrev second_is_ascii : List ℕ → Bool
second_is_ascii [] = true
second_is_ascii (c ∷ []) = true
second_is_ascii (c ∷ d ∷ cs) = ltb d 128

symbols-ascii : (s : Symbol) → second_is_ascii (symbol_text s) ≡ true
symbols-ascii symbols.Open = refl
symbols-ascii symbols.Close = refl
symbols-ascii symbols.OpenBracket = refl
symbols-ascii symbols.CloseBracket = refl
symbols-ascii symbols.OpenBrace = refl
symbols-ascii symbols.CloseBrace = refl
symbols-ascii symbols.Comma = refl
symbols-ascii symbols.Colon = refl
symbols-ascii symbols.Semicolon = refl
symbols-ascii symbols.Dot = refl
symbols-ascii symbols.Caret = refl
symbols-ascii symbols.Question = refl
symbols-ascii symbols.Equals = refl
symbols-ascii symbols.DoubleEquals = refl
symbols-ascii symbols.DoubleArrow = refl
symbols-ascii symbols.Arrow = refl
symbols-ascii symbols.Below = refl
symbols-ascii symbols.Less = refl
symbols-ascii symbols.Plus = refl
symbols-ascii symbols.Minus = refl
symbols-ascii symbols.Star = refl

second-byte : (s : Symbol) (c d : ℕ) → c ∷ d ∷ [] ≡ symbol_text s → length (encodes (d ∷ [])) ≡ 1
second-byte s c d e =
    let low : d < 128 = (Decides-ltb d 128).0 (ap second_is_ascii e ∙ symbols-ascii s) in
    ap (λ bs. length (bs ++ [])) (encode_ascii d low)

pub symbol-size : (c : ℕ) (cs : List ℕ) (o short : Option Symbol) (s : Symbol) → o ≡ long_symbol c cs → o ≡ Some s → Some (forms.Symbol s, record { characters = 1; bytes = 1 }) ≡ sized_front cs (symbol_front (long_symbol c cs) short)
symbol-size c [] o short s e h = absurd (none_is_some s (sym e ∙ h))
symbol-size c (d ∷ cs) o short s e h =
    let pair : pair_symbol c d ≡ Some s = sym e ∙ h in
    let one = second-byte s c d (pair-text c d s pair) in
    rw pair (ap (λ m. Some (forms.Symbol s, record { characters = 1; bytes = m })) (sym one))
