-- What is found from the front of a text on is what the text is cut into, and it is cut in no other way.
use Rattle.std.proofs.Common.{◌≡◌, ℕ, zero, suc, ◌+◌, List, [], ◌∷◌, ◌++◌, length, take, drop, refl, sym, ap, ◌∙◌, arith, Option, Some, None, option_map, take-append-drop, length-append, add-zero, encode_utf8, encode_utf8_all}
use Rattle.std.proofs.lemmas.List.{take_at}
use Rattle.cc_base.specs.declared.place.Place.{Place}
use Rattle.cc_lex.specs.declared.form.Form.{Form}
use Rattle.cc_lex.specs.declared.form.Form.TheVariants as forms
use Rattle.cc_lex.specs.Lexemes.{Lexeme, NumberLexeme}
use Rattle.cc_lex.specs.Forms.{IsTooGreat, Spells}
use Rattle.cc_lex.specs.Lexical.{place_after, place_past, byte_count, SpannedLexeme, spelled_at, Extent, UpTo, IsBlank, IsLongestForm, BeginsNothing, BeginsTooGreat, IsCut, at_end, at_nothing, at_too_great, past_blank, past_token}
use Rattle.cc_lex.specs.Cutting.{Front, front_of, blank_of, spelled_by, spelled_front, token_of, Cutting, stop, behind, found, cut}
use Rattle.cc_lex.proofs.Constructors.{some_is, none_is_some}
use Rattle.cc_lex.proofs.LongestForms.{front-good, found-longest, longest-found, form-some, none-begins}
use Rattle.cc_lex.proofs.Blanks.{IsBlankFound, blank_of-found, blank-found, blank-some, front-no_blank}
use Rattle.cc_lex.proofs.Spelling.{number_of-beyond, spelled-spells, spelled-none, spells-spelled}

-- the text is cut as is found
abbrev pub IsCutAs : Place → ℕ → List ℕ → Cutting → Type 0
IsCutAs p o text cutting = IsCut p o text cutting.tokens cutting.extent

pub offset-cons : (o c : ℕ) (cs : List ℕ) → o + byte_count (c ∷ cs) ≡ (o + length (encode_utf8 c)) + byte_count cs
offset-cons o c cs =
    let parts = length-append (encode_utf8 c) (encode_utf8_all cs) in
    omega arith

-- the text behind c, of which the first n characters belong to what begins with c, is cut so
abbrev pub Rest : Place → ℕ → ℕ → List ℕ → (ℕ → Cutting) → Type 0
Rest p o c cs rest = (n : ℕ) → IsCutAs (place_past (place_after p c) (take n cs)) (o + byte_count (c ∷ take n cs)) (drop n cs) (rest n)

split : (c : ℕ) (cs : List ℕ) (n : ℕ) → c ∷ cs ≡ (c ∷ take n cs) ++ drop n cs
split c cs n = ap (λ xs. c ∷ xs) (sym (take-append-drop n cs))

-- no token is found

no_blank-at : (c : ℕ) (cs ds after : List ℕ) → blank_of c cs ≡ None → c ∷ cs ≡ ds ++ after → IsBlank ds after → ⊥
no_blank-at c cs [] after e s h = blank-some [] after h refl
no_blank-at c cs (d ∷ es) after e s h =
    let some = blank-found d es after h in
    let none : blank_of d (es ++ after) ≡ None = cc in
    none_is_some (length es) (sym none ∙ some)

nothing-begins : (c : ℕ) (cs : List ℕ) → blank_of c cs ≡ None → front_of c cs ≡ None → BeginsNothing (c ∷ cs)
nothing-begins c cs blank front = record {
  some = omega arith;
  no_blank = λ ds after s h. no_blank-at c cs ds after blank s h;
  no_form = λ ds after s h. none-begins c cs ds after front s h;
}

no_lexeme : {A B : Type 0} (o : Option A) (f : A → B) → option_map f o ≡ None → o ≡ None
no_lexeme None f h = refl
no_lexeme (Some x) f h = cc

token-none : (p : Place) (o c : ℕ) (cs : List ℕ) (front : Option Front) → front_of c cs ≡ front → blank_of c cs ≡ None → spelled_front p o c cs front ≡ None → IsCut p o (c ∷ cs) [] (UpTo p)
token-none p o c cs None e blank h = at_nothing (nothing-begins c cs blank e)
token-none p o c cs (Some front) e blank h =
    let good = front-good c cs front e in
    let ds = c ∷ take front.1 cs in
    at_too_great (record {
      cs = ds;
      after = drop front.1 cs;
      front = split c cs front.1;
      longest = found-longest c cs front e;
      too_great = spelled-none front.0 ds good.1 (no_lexeme (spelled_by front.0 ds) (λ lexeme. (spelled_at p o ds lexeme, front.1)) h);
    })

-- a token is found

token-spelled : (p : Place) (o c : ℕ) (cs : List ℕ) (rest : ℕ → Cutting) (front : Front) (lexeme : Option Lexeme) (token : SpannedLexeme × ℕ) → front_of c cs ≡ Some front → spelled_by front.0 (c ∷ take front.1 cs) ≡ lexeme → option_map (λ x. (spelled_at p o (c ∷ take front.1 cs) x, front.1)) lexeme ≡ Some token → Rest p o c cs rest → IsCutAs p o (c ∷ cs) (behind token.0 (rest token.1))
token-spelled p o c cs rest front None token e s h r = cc
token-spelled p o c cs rest front (Some lexeme) token e s h r =
    let ds = c ∷ take front.1 cs in
    let good = front-good c cs front e in
    let spells = spelled-spells front.0 ds lexeme good.1 s in
    let whole : IsCutAs p o (c ∷ cs) (behind (spelled_at p o ds lexeme) (rest front.1)) = past_token ds (drop front.1 cs) (split c cs front.1) (found-longest c cs front e) spells (r front.1) in
    let same : (spelled_at p o ds lexeme, front.1) ≡ token = some_is (spelled_at p o ds lexeme, front.1) token h in
    rw (← same) whole

token-some : (p : Place) (o c : ℕ) (cs : List ℕ) (rest : ℕ → Cutting) (front : Option Front) (token : SpannedLexeme × ℕ) → front_of c cs ≡ front → spelled_front p o c cs front ≡ Some token → Rest p o c cs rest → IsCutAs p o (c ∷ cs) (behind token.0 (rest token.1))
token-some p o c cs rest None token e h r = cc
token-some p o c cs rest (Some front) token e h r =
    token-spelled p o c cs rest front (spelled_by front.0 (c ∷ take front.1 cs)) token e refl h r

found-IsCut : (p : Place) (o c : ℕ) (cs : List ℕ) (rest : ℕ → Cutting) (blank : Option ℕ) (token : Option (SpannedLexeme × ℕ)) → blank_of c cs ≡ blank → token_of p o c cs ≡ token → Rest p o c cs rest → IsCutAs p o (c ∷ cs) (found p blank token rest)
unfolding token_of
found-IsCut p o c cs rest (Some n) token b t r =
    let blank : IsBlankFound c cs (Some n) = (let all = blank_of-found c cs in rw b at all) in
    past_blank (c ∷ take n cs) (drop n cs) (split c cs n) blank.1 (r n)
found-IsCut p o c cs rest None None b t r = token-none p o c cs (front_of c cs) refl b t
found-IsCut p o c cs rest None (Some token) b t r = token-some p o c cs rest (front_of c cs) token refl t r

cut-rest : (p : Place) (o c : ℕ) (cs : List ℕ) → ((n : ℕ) (q : Place) (i : ℕ) → IsCutAs (place_past q (take n cs)) (i + byte_count (take n cs)) (drop n cs) (cut n q i cs)) → Rest p o c cs (λ n. cut n (place_after p c) (o + length (encode_utf8 c)) cs)
cut-rest p o c cs each n = rw (offset-cons o c (take n cs)) (each n (place_after p c) (o + length (encode_utf8 c)))

cut-IsCut : (text : List ℕ) (n : ℕ) (p : Place) (o : ℕ) → IsCutAs (place_past p (take n text)) (o + byte_count (take n text)) (drop n text) (cut n p o text)
cut-IsCut [] zero p o = at_end
cut-IsCut [] (suc n) p o = at_end
cut-IsCut (c ∷ cs) zero p o = rw add-zero (found-IsCut p o c cs (λ n. cut n (place_after p c) (o + length (encode_utf8 c)) cs) (blank_of c cs) (token_of p o c cs) refl refl (cut-rest p o c cs (cut-IsCut cs)))
cut-IsCut (c ∷ cs) (suc n) p o = cut-rest p o c cs (cut-IsCut cs) n

-- the text is cut as is found from its front on
pub cut-is : (p : Place) (o : ℕ) (text : List ℕ) → IsCutAs p o text (cut 0 p o text)
cut-is p o text = rw add-zero at (cut-IsCut text 0 p o)

-- a text that is cut is found so

pub found-none : (p : Place) (o c : ℕ) (cs : List ℕ) → blank_of c cs ≡ None → token_of p o c cs ≡ None → cut 0 p o (c ∷ cs) ≡ stop p
found-none p o c cs b t = rw (b, t) refl

pub token_of-none : (p : Place) (o c : ℕ) (cs : List ℕ) → front_of c cs ≡ None → token_of p o c cs ≡ None
unfolding token_of
token_of-none p o c cs e = ap (spelled_front p o c cs) e

token_of-front : (p : Place) (o c : ℕ) (es after : List ℕ) (form : Form) → front_of c (es ++ after) ≡ Some (form, length es) → token_of p o c (es ++ after) ≡ option_map (λ lexeme. (spelled_at p o (c ∷ es) lexeme, length es)) (spelled_by form (c ∷ es))
unfolding token_of
token_of-front p o c es after form e =
    ap (spelled_front p o c (es ++ after)) e ∙ ap (λ xs. option_map (λ lexeme. (spelled_at p o (c ∷ xs) lexeme, length es)) (spelled_by form (c ∷ xs))) (take_at es after (length es) refl)

blank-none : (c : ℕ) (cs : List ℕ) (blank : Option ℕ) → blank_of c cs ≡ blank → BeginsNothing (c ∷ cs) → blank ≡ None
blank-none c cs None e b = refl
blank-none c cs (Some n) e b =
    let blank : IsBlankFound c cs (Some n) = (let all = blank_of-found c cs in rw e at all) in
    absurd (b.no_blank (c ∷ take n cs) (drop n cs) (split c cs n) blank.1)

front-none : (c : ℕ) (cs : List ℕ) (front : Option Front) → front_of c cs ≡ front → BeginsNothing (c ∷ cs) → front ≡ None
front-none c cs None e b = refl
front-none c cs (Some front) e b =
    let good = front-good c cs front e in
    absurd (b.no_form (c ∷ take front.1 cs) (drop front.1 cs) (split c cs front.1) (front.0, good.1))

only-nothing : (p : Place) (o : ℕ) (text : List ℕ) → BeginsNothing text → cut 0 p o text ≡ stop p
only-nothing p o [] b = absurd (let some = b.some in omega arith)
only-nothing p o (c ∷ cs) b =
    found-none p o c cs (blank-none c cs (blank_of c cs) refl b) (token_of-none p o c cs (front-none c cs (front_of c cs) refl b))

great-at : (p : Place) (o : ℕ) (cs after : List ℕ) → IsLongestForm cs after → IsTooGreat cs → cut 0 p o (cs ++ after) ≡ stop p
great-at p o [] after longest great = absurd (form-some [] longest.form refl)
great-at p o (c ∷ es) after longest great =
    let front = longest-found c es after forms.Digits great.0 longest in
    let none = ap (λ x. option_map (λ lexeme. (spelled_at p o (c ∷ es) lexeme, length es)) (option_map NumberLexeme x)) (number_of-beyond (c ∷ es) great.1) in
    found-none p o c (es ++ after) (front-no_blank c (es ++ after) (forms.Digits, length es) (blank_of c (es ++ after)) front refl) (token_of-front p o c es after forms.Digits front ∙ none)

only-too_great : (p : Place) (o : ℕ) (text : List ℕ) → BeginsTooGreat text → cut 0 p o text ≡ stop p
only-too_great p o text b = rw b.front (great-at p o b.cs b.after b.longest b.too_great)

cut-behind : (ds after : List ℕ) (p : Place) (o : ℕ) → cut (length ds) p o (ds ++ after) ≡ cut 0 (place_past p ds) (o + byte_count ds) after
cut-behind [] after p o = rw add-zero refl
cut-behind (d ∷ ds) after p o = cut-behind ds after (place_after p d) (o + length (encode_utf8 d)) ∙ ap (λ i. cut 0 (place_past p (d ∷ ds)) i after) (sym (offset-cons o d ds))

-- what is found where n characters more belong to what stands before
pub cut-jump : (cs : List ℕ) (n : ℕ) (p : Place) (o : ℕ) → cut n p o cs ≡ cut 0 (place_past p (take n cs)) (o + byte_count (take n cs)) (drop n cs)
cut-jump [] zero p o = refl
cut-jump [] (suc n) p o = refl
cut-jump (c ∷ cs) zero p o = rw add-zero refl
cut-jump (c ∷ cs) (suc n) p o = cut-jump cs n (place_after p c) (o + length (encode_utf8 c)) ∙ ap (λ i. cut 0 (place_past p (c ∷ take n cs)) i (drop n cs)) (sym (offset-cons o c (take n cs)))

-- what is found behind the first character, where all of cs belongs to what begins there
cut-past : (p : Place) (o c : ℕ) (es after : List ℕ) → cut (length es) (place_after p c) (o + length (encode_utf8 c)) (es ++ after) ≡ cut 0 (place_past p (c ∷ es)) (o + byte_count (c ∷ es)) after
cut-past p o c es after = cut-behind (c ∷ es) after p o

blank-at : (p : Place) (o : ℕ) (cs after : List ℕ) (found : Cutting) → IsBlank cs after → cut 0 (place_past p cs) (o + byte_count cs) after ≡ found → cut 0 p o (cs ++ after) ≡ found
blank-at p o [] after found b h = absurd (blank-some [] after b refl)
blank-at p o (c ∷ es) after found b h = rw (blank-found c es after b) (cut-past p o c es after ∙ h)

token-at : (p : Place) (o : ℕ) (cs after : List ℕ) (lexeme : Lexeme) (found : Cutting) → IsLongestForm cs after → Spells lexeme cs → cut 0 (place_past p cs) (o + byte_count cs) after ≡ found → cut 0 p o (cs ++ after) ≡ behind (spelled_at p o cs lexeme) found
token-at p o [] after lexeme found longest s h = absurd (form-some [] longest.form refl)
token-at p o (c ∷ es) after lexeme found longest s h =
    let spelled = spells-spelled lexeme (c ∷ es) s in
    let form = spelled.0 in
    let front = longest-found c es after form spelled.1 longest in
    let blank = front-no_blank c (es ++ after) (form, length es) (blank_of c (es ++ after)) front refl in
    let token = token_of-front p o c es after form front ∙ ap (option_map (λ x. (spelled_at p o (c ∷ es) x, length es))) spelled.2 in
    rw (blank, token) (ap (behind (spelled_at p o (c ∷ es) lexeme)) (cut-past p o c es after ∙ h))

pub IsCut-cut : {p : Place} {o : ℕ} {text : List ℕ} {ts : List SpannedLexeme} {extent : Extent} → IsCut p o text ts extent → cut 0 p o text ≡ record { tokens = ts; extent = extent }
IsCut-cut at_end = refl
IsCut-cut (at_nothing {p = p} {o = o} {text = text} b) = only-nothing p o text b
IsCut-cut (at_too_great {p = p} {o = o} {text = text} b) = only-too_great p o text b
IsCut-cut (past_blank {p = p} {o = o} {ts = ts} {extent = extent} cs after e b r) =
    ap (cut 0 p o) e ∙ blank-at p o cs after (record { tokens = ts; extent = extent }) b (IsCut-cut r)
IsCut-cut (past_token {p = p} {o = o} {lexeme = lexeme} {ts = ts} {extent = extent} cs after e longest s r) =
    ap (cut 0 p o) e ∙ token-at p o cs after lexeme (record { tokens = ts; extent = extent }) longest s (IsCut-cut r)

-- a text is cut in one way
pub IsCut-same : {p : Place} {o : ℕ} {text : List ℕ} {ts us : List SpannedLexeme} {e f : Extent} → IsCut p o text ts e → IsCut p o text us f → (ts ≡ us) × (e ≡ f)
IsCut-same r s =
    let same = sym (IsCut-cut r) ∙ IsCut-cut s in
    (ap (λ x. x.tokens) same, ap (λ x. x.extent) same)
