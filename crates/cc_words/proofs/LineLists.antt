-- The lines of a text, and texts of whole lines.
use Rattle.std.proofs.Common.{◌≡◌, ℕ, suc, ◌+◌, ◌-◌, ◌<◌, ◌≤◌, Bool, true, false, ◌==◌, cond, List, [], ◌∷◌, ◌++◌, length, take, drop, Option, Some, None, refl, sym, ap, ◌∙◌, subst, inl, inr, ◌⊎◌, ⊎_elim, arith}
use Rattle.std.specs.Prelude.{option_map}
use Rattle.std.proofs.lemmas.List.{append-nil, append_assoc, length-append, length-drop, take_all}
use Rattle.std.proofs.lemmas.Bool.Decides.{nat_tests, Decides-eqb}
use Rattle.std.proofs.lemmas.Option.{some_pair_parts}
use Rattle.cc_words.specs.Lines.{Line, before_first_line, lines_of, is_whole_behind, AreWholeLines, left_behind, text_cut, or_all, next_line}
use Rattle.cc_words.specs.Words.{cut_at}
use Rattle.cc_words.proofs.Steps.{Lacks, cut_at_gives}
use Rattle.cc_words.proofs.Splits.{AllLack, cut_at_lacks, cut_at_none}

-- the lines with a line feed behind each
abbrev pub terminated : List Line → List ℕ
terminated [] = []
terminated (line ∷ lines) = line ++ 10 ∷ terminated lines

pub lines_of-append : (line rest : List ℕ) → Lacks 10 line → lines_of (line ++ 10 ∷ rest) ≡ line ∷ lines_of rest
lines_of-append [] rest lacks = refl
lines_of-append (b ∷ line) rest lacks = rw (lacks.0, lines_of-append line rest lacks.1) refl

pub lines_of-last : (b : ℕ) (bs : List ℕ) → Lacks 10 (b ∷ bs) → lines_of (b ∷ bs) ≡ (b ∷ bs) ∷ []
lines_of-last b [] lacks = rw lacks.0 refl
lines_of-last b (c ∷ bs) lacks = rw (lacks.0, lines_of-last c bs lacks.1) refl

pub is_whole-append : (before : Bool) (line rest : List ℕ) → is_whole_behind before (line ++ 10 ∷ rest) ≡ is_whole_behind true rest
is_whole-append before [] rest = refl
is_whole-append before (b ∷ line) rest = is_whole-append (b == 10) line rest

pub is_whole-last : (before : Bool) (b : ℕ) (bs : List ℕ) → Lacks 10 (b ∷ bs) → is_whole_behind before (b ∷ bs) ≡ false
is_whole-last before b [] lacks = lacks.0
is_whole-last before b (c ∷ bs) lacks = is_whole-last (b == 10) c bs lacks.1

-- a text that is not empty has a first line, and others where a line feed ends that one
pub record FirstLine (bytes line behind : List ℕ) : Type 0 where
  pub lacks : Lacks 10 line
  pub lines : lines_of bytes ≡ line ∷ lines_of behind
  pub ends : (bytes ≡ line ++ 10 ∷ behind) ⊎ ((bytes ≡ line) × (behind ≡ []) × (is_whole_behind true bytes ≡ false))

first_line_in : (b : ℕ) (bs : List ℕ) (cut : Option (List ℕ × List ℕ)) → cut_at 10 (b ∷ bs) ≡ cut → FirstLine (b ∷ bs) (or_all (b ∷ bs) cut).0 (or_all (b ∷ bs) cut).1
first_line_in b bs (Some cut) e =
    let is = cut_at_gives 10 (b ∷ bs) cut.0 cut.1 e in
    let lacks = cut_at_lacks 10 (b ∷ bs) cut.0 cut.1 e in
    record { lacks = lacks; lines = ap lines_of is ∙ lines_of-append cut.0 cut.1 lacks; ends = inl is }
first_line_in b bs None e =
    let lacks = cut_at_none 10 (b ∷ bs) e in
    record { lacks = lacks; lines = lines_of-last b bs lacks; ends = inr (refl, refl, is_whole-last true b bs lacks) }

pub next_line-first : (b : ℕ) (bs : List ℕ) → FirstLine (b ∷ bs) (next_line (b ∷ bs)).0 (next_line (b ∷ bs)).1
next_line-first b bs = first_line_in b bs (cut_at 10 (b ∷ bs)) refl

pub lines_of-terminated : (lines : List Line) (rest : List ℕ) → AllLack 10 lines → lines_of (terminated lines ++ rest) ≡ lines ++ lines_of rest
lines_of-terminated [] rest lack = refl
lines_of-terminated (line ∷ lines) rest lack =
    ap lines_of (append_assoc line (10 ∷ terminated lines) rest)
    ∙ (lines_of-append line (terminated lines ++ rest) lack.0 ∙ ap (λ ls. line ∷ ls) (lines_of-terminated lines rest lack.1))

pub is_whole-terminated : (lines : List Line) (rest : List ℕ) → is_whole_behind true (terminated lines ++ rest) ≡ is_whole_behind true rest
is_whole-terminated [] rest = refl
is_whole-terminated (line ∷ lines) rest =
    ap (is_whole_behind true) (append_assoc line (10 ∷ terminated lines) rest)
    ∙ (is_whole-append true line (terminated lines ++ rest) ∙ is_whole-terminated lines rest)

pub lines_of-whole : (lines : List Line) → AllLack 10 lines → lines_of (terminated lines) ≡ lines
lines_of-whole lines lack =
    ap lines_of (sym (append-nil (terminated lines))) ∙ (lines_of-terminated lines [] lack ∙ append-nil lines)

pub whole-terminated : (lines : List Line) → AreWholeLines (terminated lines)
whole-terminated lines = ap (is_whole_behind true) (sym (append-nil (terminated lines))) ∙ is_whole-terminated lines []

terminated-before : (b : ℕ) (bs : List ℕ) (lines : List Line) → terminated lines ≡ bs → is_whole_behind false bs ≡ true → terminated (before_first_line b lines) ≡ b ∷ bs
terminated-before b bs [] e whole = let clash = subst (λ it. is_whole_behind false it ≡ true) (sym e) whole in cc
terminated-before b bs (line ∷ lines) e whole = ap (λ it. b ∷ it) e

terminated-cons : (b : ℕ) (bs : List ℕ) (test : Bool) (lines : List Line) → (b == 10) ≡ test → terminated lines ≡ bs → is_whole_behind test bs ≡ true → terminated (cond test ([] ∷ lines) (before_first_line b lines)) ≡ b ∷ bs
terminated-cons b bs true lines t e whole = ap (λ it. 10 ∷ it) e ∙ ap (λ x. x ∷ bs) (sym ((Decides-eqb b 10).0 t))
terminated-cons b bs false lines t e whole = terminated-before b bs lines e whole

terminated-lines_behind : (before : Bool) (text : List ℕ) → is_whole_behind before text ≡ true → terminated (lines_of text) ≡ text
terminated-lines_behind before [] whole = refl
terminated-lines_behind before (b ∷ bs) whole = terminated-cons b bs (b == 10) (lines_of bs) refl (terminated-lines_behind (b == 10) bs whole) whole

-- a text of whole lines is its lines, each with its line feed
pub terminated-lines_of : (text : List ℕ) → AreWholeLines text → terminated (lines_of text) ≡ text
terminated-lines_of text whole = terminated-lines_behind true text whole

lacks-before : (b : ℕ) (lines : List Line) → (b == 10) ≡ false → AllLack 10 lines → AllLack 10 (before_first_line b lines)
lacks-before b [] other lack = ((other, tt), tt)
lacks-before b (line ∷ lines) other lack = ((other, lack.0), lack.1)

lacks-cons : (b : ℕ) (test : Bool) (lines : List Line) → (b == 10) ≡ test → AllLack 10 lines → AllLack 10 (cond test ([] ∷ lines) (before_first_line b lines))
lacks-cons b true lines t lack = (tt, lack)
lacks-cons b false lines t lack = lacks-before b lines t lack

-- no line has a line feed
pub lines-lack : (bytes : List ℕ) → AllLack 10 (lines_of bytes)
lines-lack [] = tt
lines-lack (b ∷ bs) = lacks-cons b (b == 10) (lines_of bs) refl (lines-lack bs)

pub AllLack-append : (c : ℕ) (xs ys : List Line) → AllLack c xs → AllLack c ys → AllLack c (xs ++ ys)
AllLack-append c [] ys p q = q
AllLack-append c (x ∷ xs) ys p q = (p.0, AllLack-append c xs ys p.1 q)

pub AllLack-front : (c : ℕ) (xs ys : List Line) → AllLack c (xs ++ ys) → AllLack c xs
AllLack-front c [] ys p = tt
AllLack-front c (x ∷ xs) ys p = (p.0, AllLack-front c xs ys p.1)

pub AllLack-back : (c : ℕ) (xs ys : List Line) → AllLack c (xs ++ ys) → AllLack c ys
AllLack-back c [] ys p = p
AllLack-back c (x ∷ xs) ys p = AllLack-back c xs ys p.1

-- a text has no more lines than bytes
before_first_line-length : (b : ℕ) (lines : List Line) (n : ℕ) → length lines ≤ n → length (before_first_line b lines) ≤ suc n
before_first_line-length b [] n h = omega arith
before_first_line-length b (line ∷ lines) n h = omega arith

lines-length_cons : (b : ℕ) (test : Bool) (lines : List Line) (n : ℕ) → length lines ≤ n → length (cond test ([] ∷ lines) (before_first_line b lines)) ≤ suc n
lines-length_cons b true lines n h = omega arith
lines-length_cons b false lines n h = before_first_line-length b lines n h

pub lines-length : (bytes : List ℕ) → length (lines_of bytes) ≤ length bytes
lines-length [] = omega arith
lines-length (b ∷ bs) = lines-length_cons b (b == 10) (lines_of bs) (length bs) (lines-length bs)

pub cons_parts : {A : Type 0} (x y : A) (xs ys : List A) → x ∷ xs ≡ y ∷ ys → (x ≡ y) × (xs ≡ ys)
cons_parts x y xs ys h = (cc, cc)

pub back_empty : {A : Type 0} (xs ys : List A) → xs ++ ys ≡ [] → ys ≡ []
back_empty [] ys h = h
back_empty (x ∷ xs) ys h = cc

-- the front lines of a text: they are whole, or nothing follows and the last has no line feed
abbrev pub FrontLines : List Line → List Line → List ℕ → Type 0
FrontLines lines more bytes =
    ((rest : List ℕ) × (bytes ≡ terminated lines ++ rest) × (lines_of rest ≡ more)) ⊎ ((more ≡ []) × (is_whole_behind true bytes ≡ false))

front_feed : (line : Line) (lines more : List Line) (l r bytes : List ℕ) → bytes ≡ l ++ 10 ∷ r → l ∷ lines_of r ≡ line ∷ (lines ++ more)
    → (lines_of r ≡ lines ++ more → FrontLines lines more r) → FrontLines (line ∷ lines) more bytes
front_feed line lines more l r bytes is same deeper =
    let parts = cons_parts l line (lines_of r) (lines ++ more) same in
    ⊎_elim
    (λ found. inl (found.0, is ∙ (ap (λ xs. xs ++ 10 ∷ r) parts.0 ∙ (ap (λ xs. line ++ 10 ∷ xs) found.1 ∙ sym (append_assoc line (10 ∷ terminated lines) found.0))), found.2))
    (λ last. inr (last.0, ap (is_whole_behind true) is ∙ (is_whole-append true l r ∙ last.1)))
    (deeper parts.1)

front_last : (line : Line) (lines more : List Line) (l r bytes : List ℕ) → r ≡ [] → is_whole_behind true bytes ≡ false → l ∷ lines_of r ≡ line ∷ (lines ++ more) → FrontLines (line ∷ lines) more bytes
front_last line lines more l r bytes none not_whole same =
    let parts = cons_parts l line (lines_of r) (lines ++ more) same in
    inr (back_empty lines more (sym parts.1 ∙ ap lines_of none), not_whole)

pub front_lines : (lines more : List Line) (bytes : List ℕ) → lines_of bytes ≡ lines ++ more → FrontLines lines more bytes
front_lines [] more bytes e = inl (bytes, refl, e)
front_lines (line ∷ lines) more [] e = cc
front_lines (line ∷ lines) more (b ∷ bs) e =
    let cut = next_line (b ∷ bs) in
    let first = next_line-first b bs in
    let same = sym first.lines ∙ e in
    ⊎_elim
    (λ is. front_feed line lines more cut.0 cut.1 (b ∷ bs) is same (λ h. front_lines lines more cut.1 h))
    (λ last. front_last line lines more cut.0 cut.1 (b ∷ bs) last.1 last.2 same)
    first.ends

not_zero : (n : ℕ) → (suc n == 0) ≡ false
not_zero n = grind (arith, nat_tests)

-- the text of so many whole lines is cut off
text_cut-line : (line : Line) (n : ℕ) (rest text behind : List ℕ) → Lacks 10 line → text_cut n rest ≡ Some (text, behind) → text_cut (suc n) (line ++ 10 ∷ rest) ≡ Some (line ++ 10 ∷ text, behind)
text_cut-line [] n rest text behind lacks h =
    let left : suc n - 1 ≡ n = omega arith in
    rw (not_zero n, left, h) refl
text_cut-line (b ∷ line) n rest text behind lacks h =
    rw (not_zero n, lacks.0, text_cut-line line n rest text behind lacks.1 h) refl

pub text_cut-none : (rest : List ℕ) → text_cut 0 rest ≡ Some ([], rest)
text_cut-none [] = refl
text_cut-none (b ∷ bs) = refl

pub text_cut-terminated : (lines : List Line) (rest : List ℕ) → AllLack 10 lines → text_cut (length lines) (terminated lines ++ rest) ≡ Some (terminated lines, rest)
text_cut-terminated [] rest lack = text_cut-none rest
text_cut-terminated (line ∷ lines) rest lack =
    ap (text_cut (length (line ∷ lines))) (append_assoc line (10 ∷ terminated lines) rest)
    ∙ text_cut-line line (length lines) (terminated lines ++ rest) (terminated lines) rest lack.0 (text_cut-terminated lines rest lack.1)

-- what is cut off
pub record Cut (count : ℕ) (bytes text behind : List ℕ) : Type 0 where
  pub lines : List Line
  pub lack : AllLack 10 lines
  pub count_is : length lines ≡ count
  pub text_is : text ≡ terminated lines
  pub joins : bytes ≡ text ++ behind

cut_more : (b count : ℕ) (bs text behind : List ℕ) (test : Bool) → (b == 10) ≡ test → (count == 0) ≡ false → Cut (cond test (count - 1) count) bs text behind → Cut count (b ∷ bs) (b ∷ text) behind
cut_more b count bs text behind true feed some cut =
    let same = (Decides-eqb b 10).0 feed in
    let above : 0 < count = grind (arith, nat_tests) in
    record {
      lines = [] ∷ cut.lines;
      lack = (tt, cut.lack);
      count_is = omega (arith, cut.count_is);
      text_is = ap (λ x. x ∷ text) same ∙ ap (λ xs. 10 ∷ xs) cut.text_is;
      joins = ap (λ xs. b ∷ xs) cut.joins;
    }
cut_more b count bs text behind false feed some cut = longer cut.lines cut.lack cut.count_is cut.text_is cut.joins
  where
    longer : (lines : List Line) → AllLack 10 lines → length lines ≡ count → text ≡ terminated lines → bs ≡ text ++ behind → Cut count (b ∷ bs) (b ∷ text) behind
    longer [] lack n is joins = let above : 0 < count = grind (arith, nat_tests) in absurd (omega arith)
    longer (line ∷ lines) lack n is joins = record {
      lines = (b ∷ line) ∷ lines;
      lack = ((feed, lack.0), lack.1);
      count_is = n;
      text_is = ap (λ xs. b ∷ xs) is;
      joins = ap (λ xs. b ∷ xs) joins;
    }

cut_nothing : (count : ℕ) (bytes text behind : List ℕ) → (count == 0) ≡ true → ◌≡◌ {A = Option (List ℕ × List ℕ)} (Some ([], bytes)) (Some (text, behind)) → Cut count bytes text behind
cut_nothing count bytes text behind zero_is h =
    let parts = some_pair_parts [] text bytes behind h in
    record {
      lines = [];
      lack = tt;
      count_is = sym ((Decides-eqb count 0).0 zero_is);
      text_is = sym parts.0;
      joins = parts.1 ∙ ap (λ xs. xs ++ behind) parts.0;
    }

text_cut_cons : (b count : ℕ) (bs text behind : List ℕ) (test : Bool) (inner : Option (List ℕ × List ℕ)) → (count == 0) ≡ test
    → ((t r : List ℕ) → inner ≡ Some (t, r) → Cut (left_behind b count) bs t r)
    → cond {A = Option (List ℕ × List ℕ)} test (Some ([], b ∷ bs)) (option_map (λ cut. (b ∷ cut.0, cut.1)) inner) ≡ Some (text, behind)
    → Cut count (b ∷ bs) text behind
text_cut_cons b count bs text behind true inner t deeper h = cut_nothing count (b ∷ bs) text behind t h
text_cut_cons b count bs text behind false None t deeper h = cc
text_cut_cons b count bs text behind false (Some cut) t deeper h =
    let parts = some_pair_parts (b ∷ cut.0) text cut.1 behind h in
    subst (λ it. Cut count (b ∷ bs) it behind) parts.0 (subst (λ it. Cut count (b ∷ bs) (b ∷ cut.0) it) parts.1
    (cut_more b count bs cut.0 cut.1 (b == 10) refl t (deeper cut.0 cut.1 refl)))

text_cut_empty : (count : ℕ) (text behind : List ℕ) (test : Bool) → (count == 0) ≡ test → cond {A = Option (List ℕ × List ℕ)} test (Some ([], [])) None ≡ Some (text, behind) → Cut count [] text behind
text_cut_empty count text behind true t h = cut_nothing count [] text behind t h
text_cut_empty count text behind false t h = cc

pub text_cut_gives : (count : ℕ) (bytes text behind : List ℕ) → text_cut count bytes ≡ Some (text, behind) → Cut count bytes text behind
text_cut_gives count [] text behind h = text_cut_empty count text behind (count == 0) refl h
text_cut_gives count (b ∷ bs) text behind h =
    text_cut_cons b count bs text behind (count == 0) (text_cut (left_behind b count) bs) refl (λ t r e. text_cut_gives (left_behind b count) bs t r e) h

-- Where so many lines cannot be cut off, and the text has as many, the last of them has no line feed.
pub text_cut-short : (lines more : List Line) (bytes : List ℕ) → text_cut (length lines) bytes ≡ None → lines_of bytes ≡ lines ++ more → (more ≡ []) × (is_whole_behind true bytes ≡ false)
text_cut-short lines more bytes none e =
    ⊎_elim (λ found. absurd (clash found.0 found.1)) (λ last. last) (front_lines lines more bytes e)
  where
    lack : AllLack 10 lines
    lack = AllLack-front 10 lines more (subst (AllLack 10) e (lines-lack bytes))

    clash : (rest : List ℕ) → bytes ≡ terminated lines ++ rest → ⊥
    clash rest is =
        let found = text_cut-terminated lines rest lack in
        let cut = ap (text_cut (length lines)) is in
        cc

text_cut_turned : (bytes : List ℕ) (at left : ℕ) (found : Option (List ℕ × List ℕ)) → left ≡ 0 → option_map (λ it. (take at bytes ++ it.0, it.1)) (text_cut left (drop at bytes)) ≡ found → Some (take at bytes, drop at bytes) ≡ found
text_cut_turned bytes at left found none e =
    sym (ap (λ n. option_map (λ it. (take at bytes ++ it.0, it.1)) (text_cut n (drop at bytes))) none
    ∙ (ap (λ o. option_map (λ it. (take at bytes ++ it.0, it.1)) o) (text_cut-none (drop at bytes)) ∙ ap (λ xs. Some (xs, drop at bytes)) (append-nil (take at bytes)))) ∙ e

-- where enough lines are cut off
pub text_cut_found : (bytes : List ℕ) (at left : ℕ) (found : Option (List ℕ × List ℕ)) → left ≡ 0 → option_map (λ it. (take at bytes ++ it.0, it.1)) (text_cut left (drop at bytes)) ≡ found
    → Some (take at bytes, take (length bytes - at) (drop at bytes)) ≡ found
text_cut_found bytes at left found none e =
    ap (λ xs. Some (take at bytes, xs)) (take_all (length bytes - at) (drop at bytes) (omega (arith, length-drop at bytes))) ∙ text_cut_turned bytes at left found none e

-- one line less in what is left
pub line_shorter : (bytes : List ℕ) (line behind : List ℕ) → (line, behind) ≡ next_line bytes → (length bytes == 0) ≡ false → length behind < length bytes
line_shorter [] line behind e some = cc
line_shorter (b ∷ bs) line behind e some = subst (λ n. n < length (b ∷ bs)) (ap (λ it. length it.1) (sym e)) (ends b bs)
  where
    ends : (b : ℕ) (bs : List ℕ) → length (next_line (b ∷ bs)).1 < length (b ∷ bs)
    ends b bs =
        ⊎_elim (λ is. fed (next_line (b ∷ bs)).0 (next_line (b ∷ bs)).1 (ap length is)) (λ last. bare (ap length last.1)) (next_line-first b bs).ends
      where
        fed : (l r : List ℕ) → length (b ∷ bs) ≡ length (l ++ 10 ∷ r) → length r < length (b ∷ bs)
        fed l r h = omega (arith, length-append l (10 ∷ r))

        bare : length (next_line (b ∷ bs)).1 ≡ length {A = ℕ} [] → length (next_line (b ∷ bs)).1 < length (b ∷ bs)
        bare h = omega arith

pub line_counted : (bytes : List ℕ) (line behind : List ℕ) → (line, behind) ≡ next_line bytes → (length bytes == 0) ≡ false → length (lines_of bytes) ≡ length (lines_of behind) + 1
line_counted [] line behind e some = cc
line_counted (b ∷ bs) line behind e some = ap length (next_line-first b bs).lines ∙ (suc_is (length (lines_of (next_line (b ∷ bs)).1)) ∙ ap (λ it. length (lines_of it.1) + 1) (sym e))
  where
    suc_is : (n : ℕ) → suc n ≡ n + 1
    suc_is n = omega arith
