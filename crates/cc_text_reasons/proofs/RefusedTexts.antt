-- Texts that are no modules have one reason, with the code and the place of the refusal.
use Rattle.std.proofs.Common.{◌≡◌, ◌⊎◌, inl, inr, ℕ, suc, ◌+◌, ◌<◌, ◌≤◌, ◌==◌, Bool, true, false, cond, List, [], ◌∷◌, ◌++◌, length, IsTrue, refl, sym, ap, subst, ◌∙◌, append_assoc, arith}
use Rattle.std.specs.Prelude.{if◌then◌else◌}
use Rattle.std.specs.List.{list_all}
use Rattle.std.specs.Str.{chars}
use Rattle.std.proofs.lemmas.Bool.{eqb-true, eq-eqb}
use Rattle.std.proofs.lemmas.List.{append-nil}
use Rattle.cc_base.specs.Names.{first_passes}
use Rattle.cc_base.specs.declared.code.Code.{Code}
use Rattle.cc_base.specs.declared.code.Code.TheVariants.{E01, E02, E03, E04, E05, E06, E07, E08, E09, E10, E11, E12, E13, E14, E15, E16, E17, E18, E19, E30, E31, E32, E33, E34, E35, E36, E37}
use Rattle.cc_base.specs.declared.place.Place.{Place}
use Rattle.cc_grammar.specs.Reads.{ModuleReading, TreeOf, SyntaxError, Begins, BeginsLow, NoneGoesOn, OnlyHighGoOn, place_of, Reads}
use Rattle.cc_grammar.specs.Grammar as grammar
use Rattle.cc_grammar.specs.Reads as reading
use Rattle.cc_lex.proofs.AnswerLaws.{one_list}
use Rattle.cc_lex.specs.declared.form.Form.TheVariants as forms
use Rattle.cc_lex.specs.declared.token.Symbol.TheVariants as symbols
use Rattle.cc_lex.specs.Forms.{IsForm, IsString, stands_in_string}
use Rattle.cc_lex.specs.Lexemes.{PlacedLexeme}
use Rattle.cc_lex.specs.Lexical as lexical
use Rattle.cc_lex.specs.Lexical.{is_white, EndsTheLine, IsBlank, white_space, a_comment, BeginsNothing, BeginsTooGreat, place_after, place_past, start, SpannedLexeme, without_spans, Extent, UpTo, IsCut, at_nothing, at_too_great, past_blank, past_token, StopsAt, HasTokens, IsRefusedAs, IsRefused}
use Rattle.cc_text_reasons.proofs.Breaks.{after, breaks_behind, form_first, blank_first, line_end, text_front, string_goes_on}
use Rattle.cc_text_reasons.specs.TextReasonLaws.{TextReasonsAreOfRefusals, RefusedTextsHaveAReason, TextReasonsAreUnique}
use Rattle.cc_text_reasons.specs.TextReasons.{MayBegin, IsLongestStart, Break, AtCharacter, TooGreat, BreaksAt, at_character, at_end, too_great, TextReason, NotUtf8, Broken, Unwanted, TooHigh, text_code, first_of, HasTextReason, is_not_utf8, is_broken, is_unwanted, is_too_high, AtEnd}
use Rattle.cc_verdicts.proofs.ReadingLaws.{text_has_one_reading}
use Rattle.cc_verdicts.specs.Readings.{TextReading, IsNoModule, HasReading, has_no_tokens, has_tokens, of_tokens}
use Rattle.cc_wanted.proofs.WantedKinds.{kinds_found_by_trying_are_wanted, tokens_want_one_list_of_kinds}
use Rattle.cc_wanted.specs.WantedTokens.{AreWanted}

-- one list that is cut in two ways

cut_twice : {A : Type 0} (front behind front' behind' : List A) → front ++ behind ≡ front' ++ behind'
    → ((more : List A) × (front' ≡ front ++ more) × (behind ≡ more ++ behind')) ⊎ ((more : List A) × (front ≡ front' ++ more) × (behind' ≡ more ++ behind))
cut_twice [] behind front' behind' e = inl (front', refl, e)
cut_twice (x ∷ front) behind [] behind' e = inr (x ∷ front, refl, sym e)
cut_twice {A = A} (x ∷ front) behind (y ∷ front') behind' e = lift (cut_twice front behind front' behind' (rest_is e)) (first_is e)
  where
    rest_is : x ∷ (front ++ behind) ≡ y ∷ (front' ++ behind') → front ++ behind ≡ front' ++ behind'
    rest_is e = cc

    first_is : x ∷ (front ++ behind) ≡ y ∷ (front' ++ behind') → x ≡ y
    first_is e = cc

    lift : ((more : List A) × (front' ≡ front ++ more) × (behind ≡ more ++ behind')) ⊎ ((more : List A) × (front ≡ front' ++ more) × (behind' ≡ more ++ behind))
        → x ≡ y
        → ((more : List A) × (y ∷ front' ≡ x ∷ front ++ more) × (behind ≡ more ++ behind')) ⊎ ((more : List A) × (x ∷ front ≡ y ∷ front' ++ more) × (behind' ≡ more ++ behind))
    lift (inl (more, same, is)) first = inl (more, (λ i. sym first i ∷ same i), is)
    lift (inr (more, same, is)) first = inr (more, (λ i. first i ∷ same i), is)

-- what a token breaks at is something

no_one : (c : ℕ) (cs : List ℕ) → BeginsNothing (c ∷ cs) → IsForm (c ∷ []) → ⊥
no_one c cs nothing form = nothing.no_form (c ∷ []) cs refl form

not_white : (c : ℕ) (cs : List ℕ) → BeginsNothing (c ∷ cs) → IsTrue (is_white c) → ⊥
not_white c cs nothing white = nothing.no_blank (c ∷ []) cs refl (white_space c white refl)

other_longest : (c : ℕ) (cs : List ℕ) → BeginsNothing (c ∷ cs) → (c ≡ 34 → ⊥) → (c ≡ 47 → ⊥) → IsLongestStart [] (c ∷ cs)
other_longest c cs nothing quote slash =
    record { begins = (40 ∷ [], inl (forms.Symbol symbols.Open, refl)); longest = longest }
  where
    longest : (more rest : List ℕ) → c ∷ cs ≡ more ++ rest → MayBegin ([] ++ more) → more ≡ []
    longest [] rest is may = refl
    longest (d ∷ ms) rest is (more, inl form) = absurd (by (form_first d (ms ++ more) form))
      where
        first_is : c ∷ cs ≡ d ∷ (ms ++ rest) → d ≡ c
        first_is e = cc

        by : IsForm (d ∷ []) ⊎ ((d ≡ 34) × ((text : List ℕ) × IsString text (d ∷ (ms ++ more)))) → ⊥
        by (inl one) = no_one c cs nothing (subst (λ k. IsForm (k ∷ [])) (first_is is) one)
        by (inr (same, it)) = quote (sym (first_is is) ∙ same)
    longest (d ∷ ms) rest is (more, inr blank) = absurd (by (blank_first d (ms ++ more) [] blank))
      where
        first_is : c ∷ cs ≡ d ∷ (ms ++ rest) → d ≡ c
        first_is e = cc

        by : IsTrue (is_white d) ⊎ ((d ≡ 47) × ((other : List ℕ) × (ms ++ more ≡ 47 ∷ other))) → ⊥
        by (inl white) = not_white c cs nothing (subst (λ k. IsTrue (is_white k)) (first_is is) white)
        by (inr (same, it)) = slash (sym (first_is is) ∙ same)

slash_longest : (cs : List ℕ) → BeginsNothing (47 ∷ cs) → IsLongestStart (47 ∷ []) cs
slash_longest cs nothing =
    record { begins = (47 ∷ [], inr (a_comment (record { body = []; begins = refl; in_line = refl; whole = tt }))); longest = longest }
  where
    longest : (more rest : List ℕ) → cs ≡ more ++ rest → MayBegin ((47 ∷ []) ++ more) → more ≡ []
    longest [] rest is may = refl
    longest (d ∷ ms) rest is (more, inl form) = absurd (by (form_first 47 (d ∷ (ms ++ more)) form))
      where
        by : IsForm (47 ∷ []) ⊎ ((◌≡◌ {A = ℕ} 47 34) × ((text : List ℕ) × IsString text (47 ∷ (d ∷ (ms ++ more))))) → ⊥
        by (inl one) = no_one 47 cs nothing one
        by (inr (same, it)) = absurd (omega (arith, same))
    longest (d ∷ ms) rest is (more, inr blank) = absurd (by (blank_first 47 (d ∷ (ms ++ more)) [] blank))
      where
        none : IsTrue (is_white 47) → ⊥
        none e = cc

        second_is : (other : List ℕ) → d ∷ (ms ++ more) ≡ 47 ∷ other → d ≡ 47
        second_is other e = cc

        by : IsTrue (is_white 47) ⊎ ((◌≡◌ {A = ℕ} 47 47) × ((other : List ℕ) × (d ∷ (ms ++ more) ≡ 47 ∷ other))) → ⊥
        by (inl white) = none white
        by (inr (same, (other, it))) =
            let (body, behind, ends, all, whole) = line_end (ms ++ rest) in
            let second : d ≡ 47 = second_is other it in
            let here : 47 ∷ cs ≡ 47 ∷ 47 ∷ (body ++ behind) = ap (λ t. 47 ∷ t) (is ∙ (λ i. second i ∷ ends i)) in
            nothing.no_blank (47 ∷ 47 ∷ body) behind here (a_comment (record { body = body; begins = refl; in_line = all; whole = whole }))

-- what a text breaks at where nothing begins, computed
unfoldable pub told : List ℕ → Break
told [] = AtEnd
told (c ∷ cs) = cond (c == 34) (after (text_front 200 cs).1) (cond (c == 47) (after cs) (AtCharacter c))

quote_breaks : (cs : List ℕ) → BeginsNothing (34 ∷ cs) → BreaksAt (34 ∷ cs) (after (text_front 200 cs).1)
quote_breaks cs nothing =
    let it = text_front 200 cs in
    breaks_behind (34 ∷ cs) (34 ∷ it.0) it.1 nothing (ap (λ t. 34 ∷ t) it.2)
    (record { begins = (34 ∷ [], inl (forms.Text, (it.0, (refl, it.3, it.4)))); longest = longest it.0 it.1 it.2 it.3 it.4 it.5 })
  where
    not_stands : (d : ℕ) → first_passes stands_in_string (d ∷ []) ≡ false → IsTrue (stands_in_string d) → ⊥
    not_stands d e is = cc

    longest : (text behind : List ℕ) → cs ≡ text ++ behind → IsTrue (list_all stands_in_string text) → length text ≤ 200
        → (length text ≡ 200) ⊎ (first_passes stands_in_string behind ≡ false)
        → (more rest : List ℕ) → behind ≡ more ++ rest → MayBegin ((34 ∷ text) ++ more) → more ≡ []
    longest text behind same all short ends [] rest is may = refl
    longest text behind same all short ends (d ∷ ms) rest is (more, inr blank) = absurd (by (blank_first 34 ((text ++ d ∷ ms) ++ more) [] blank))
      where
        none : IsTrue (is_white 34) → ⊥
        none e = cc

        by : IsTrue (is_white 34) ⊎ ((◌≡◌ {A = ℕ} 34 47) × ((other : List ℕ) × ((text ++ d ∷ ms) ++ more ≡ 47 ∷ other))) → ⊥
        by (inl white) = none white
        by (inr (same, it)) = absurd (omega (arith, same))
    longest text behind same all short ends (d ∷ ms) rest is (more, inl form) = absurd (by (form_first 34 ((text ++ d ∷ ms) ++ more) form))
      where
        ends_differ : (t : List ℕ) → IsString t (34 ∷ ((text ++ d ∷ ms) ++ more)) → ⊥
        ends_differ t (spelled, stand, few) =
            closed (string_goes_on text t d (ms ++ more) all stand (sym (append_assoc text (d ∷ ms) more) ∙ tail_is spelled))
          where
            tail_is : 34 ∷ ((text ++ d ∷ ms) ++ more) ≡ 34 ∷ (t ++ 34 ∷ []) → (text ++ d ∷ ms) ++ more ≡ t ++ 34 ∷ []
            tail_is e = cc

            closed : ((length text < length t) × IsTrue (stands_in_string d)) ⊎ ((text ≡ t) × (d ≡ 34)) → ⊥
            closed (inl (low, stands)) = cut_off ends
              where
                cut_off : (length text ≡ 200) ⊎ (first_passes stands_in_string behind ≡ false) → ⊥
                cut_off (inl full) = absurd (omega (arith, full))
                cut_off (inr none) = not_stands d (subst (λ b. first_passes stands_in_string b ≡ false) is none) stands
            closed (inr (equal, quote)) =
                nothing.no_form (34 ∷ (text ++ 34 ∷ [])) (ms ++ rest)
                (ap (λ b. 34 ∷ b) (same ∙ ap (λ b. text ++ b) (is ∙ ap (λ k. k ∷ (ms ++ rest)) quote) ∙ sym (append_assoc text (34 ∷ []) (ms ++ rest))))
                (forms.Text, (text, (refl, all, short)))

        by : IsForm (34 ∷ []) ⊎ ((◌≡◌ {A = ℕ} 34 34) × ((t : List ℕ) × IsString t (34 ∷ ((text ++ d ∷ ms) ++ more)))) → ⊥
        by (inl one) = no_one 34 cs nothing one
        by (inr (same, (t, it))) = ends_differ t it

pub breaks : (text : List ℕ) → BeginsNothing text → BreaksAt text (told text)
unfolding told
breaks [] nothing = absurd (omega (arith, nothing.some))
breaks (c ∷ cs) nothing = by (c == 34) (c == 47) refl refl
  where
    itself : (n : ℕ) → (n == n) ≡ true
    itself n = eq-eqb n n refl

    differs : (c d : ℕ) → (c == d) ≡ false → c ≡ d → ⊥
    differs c d not same = let is : (d == d) ≡ false = subst (λ k. (k == d) ≡ false) same not in let it = itself d in cc

    by : (quote slash : Bool) → (c == 34) ≡ quote → (c == 47) ≡ slash
        → BreaksAt (c ∷ cs) (cond quote (after (text_front 200 cs).1) (cond slash (after cs) (AtCharacter c)))
    by true slash quote other =
        let is : c ≡ 34 = eqb-true c 34 quote in
        subst (λ k. BreaksAt (k ∷ cs) (after (text_front 200 cs).1)) (sym is) (quote_breaks cs (subst (λ k. BeginsNothing (k ∷ cs)) is nothing))
    by false true other slash =
        let is : c ≡ 47 = eqb-true c 47 slash in
        subst (λ k. BreaksAt (k ∷ cs) (after cs)) (sym is)
        (let it = subst (λ k. BeginsNothing (k ∷ cs)) is nothing in breaks_behind (47 ∷ cs) (47 ∷ []) cs it refl (slash_longest cs it))
    by false false other another =
        breaks_behind (c ∷ cs) [] (c ∷ cs) nothing refl (other_longest c cs nothing (differs c 34 other) (differs c 47 another))

-- and one thing

one_front : (text front behind front' behind' : List ℕ) → text ≡ front ++ behind → text ≡ front' ++ behind' → IsLongestStart front behind
    → IsLongestStart front' behind' → behind ≡ behind'
one_front text front behind front' behind' is other start start' =
    elim (cut_twice front behind front' behind' (sym is ∙ other)) [
      | inl (more, same, rest) ↦
          let nothing = start.longest more behind' rest (subst MayBegin same start'.begins) in
          rest ∙ ap (λ m. m ++ behind') nothing
      | inr (more, same, rest) ↦
          let nothing = start'.longest more behind rest (subst MayBegin same start.begins) in
          sym (rest ∙ ap (λ m. m ++ behind) nothing)
    ]

not_both : {B : Type 0} (text : List ℕ) → BeginsNothing text → BeginsTooGreat text → B
not_both text nothing great = absurd (nothing.no_form great.cs great.after great.front great.longest.form)

pub one_break : (text : List ℕ) (one other : Break) → BreaksAt text one → BreaksAt text other → one ≡ other
one_break text one other (at_character front c behind nothing is it) (at_character front' c' behind' nothing' is' it') =
    same (one_front text front (c ∷ behind) front' (c' ∷ behind') is is' it it')
  where
    same : c ∷ behind ≡ c' ∷ behind' → AtCharacter c ≡ AtCharacter c'
    same e = cc
one_break text one other (at_character front c behind nothing is it) (at_end nothing' it') =
    absurd (none (one_front text front (c ∷ behind) text [] is (sym (append-nil text)) it it'))
  where
    none : c ∷ behind ≡ [] → ⊥
    none e = cc
one_break text one other (at_character front c behind nothing is it) (too_great great) = not_both text nothing great
one_break text one other (at_end nothing it) (at_character front c behind nothing' is it') =
    absurd (none (one_front text front (c ∷ behind) text [] is (sym (append-nil text)) it' it))
  where
    none : c ∷ behind ≡ [] → ⊥
    none e = cc
one_break text one other (at_end nothing it) (at_end nothing' it') = refl
one_break text one other (at_end nothing it) (too_great great) = not_both text nothing great
one_break text one other (too_great great) (at_character front c behind nothing is it) = not_both text nothing great
one_break text one other (too_great great) (at_end nothing it) = not_both text nothing great
one_break text one other (too_great great) (too_great more) = refl

-- places rise

abbrev Rises : Place → Place → ℕ → Type 0
Rises from to count = (from.line < to.line) ⊎ ((from.line ≡ to.line) × (from.col + count ≡ to.col))

abbrev next_place : Place → Bool → Place
next_place from b = if b then record { line = from.line + 1; col = 1 } else record { line = from.line; col = from.col + 1 }

rises : (cs : List ℕ) (from : Place) → Rises from (place_past from cs) (length cs)
rises [] from = inr (refl, omega arith)
rises (c ∷ cs) from = by (c == 10) (rises cs (place_after from c))
  where
    by : (b : Bool) → Rises (next_place from b) (place_past (next_place from b) cs) (length cs)
        → Rises from (place_past (next_place from b) cs) (suc (length cs))
    by true (inl low) = inl (omega (arith, low))
    by true (inr (same, more)) = inl (omega (arith, same))
    by false (inl low) = inl low
    by false (inr (same, more)) = inr (same, omega (arith, more))

past_more : (a b : List ℕ) (p : Place) → place_past p (a ++ b) ≡ place_past (place_past p a) b
past_more [] b p = refl
past_more (c ∷ a) b p = past_more a b (place_after p c)

stays : (p : Place) (more : List ℕ) → place_past p more ≡ p → more ≡ []
stays p [] e = refl
stays p (c ∷ cs) e = absurd (by (rises (c ∷ cs) p))
  where
    by : Rises p (place_past p (c ∷ cs)) (length (c ∷ cs)) → ⊥
    by (inl low) = let same = ap (λ q. q.line) e in omega (arith, low, same)
    by (inr (line, col)) = let same = ap (λ q. q.col) e in omega (arith, col, same)

pub one_place : (text before rest before' rest' : List ℕ) → text ≡ before ++ rest → text ≡ before' ++ rest'
    → place_past start before ≡ place_past start before' → rest ≡ rest'
one_place text before rest before' rest' is other same =
    elim (cut_twice before rest before' rest' (sym is ∙ other)) [
      | inl (more, front, behind) ↦
          let none = stays (place_past start before) more (sym (past_more before more start) ∙ ap (place_past start) (sym front) ∙ sym same) in
          behind ∙ ap (λ m. m ++ rest') none
      | inr (more, front, behind) ↦
          let none = stays (place_past start before') more (sym (past_more before' more start) ∙ ap (place_past start) (sym front) ∙ same) in
          sym (behind ∙ ap (λ m. m ++ rest) none)
    ]

-- where the tokens of a text stop

record Stop (p : Place) (text : List ℕ) (place : Place) : Type 0 where
  before : List ℕ
  rest : List ℕ
  is : text ≡ before ++ rest
  there : place ≡ place_past p before
  stops : BeginsNothing rest ⊎ BeginsTooGreat rest

stop_behind : (p : Place) (text cs after : List ℕ) (place : Place) → text ≡ cs ++ after → Stop (place_past p cs) after place → Stop p text place
stop_behind p text cs after place is it =
    record {
      before = cs ++ it.before;
      rest = it.rest;
      is = is ∙ ap (λ a. cs ++ a) it.is ∙ sym (append_assoc cs it.before it.rest);
      there = it.there ∙ sym (past_more cs it.before p);
      stops = it.stops;
    }

stop_of : (p : Place) (o : ℕ) (text : List ℕ) (tokens : List SpannedLexeme) (extent : Extent) (place : Place) → extent ≡ UpTo place
    → IsCut p o text tokens extent → Stop p text place
stop_of p o text tokens extent place e lexical.at_end = cc
stop_of p o text tokens extent place e (at_nothing nothing) = record { before = []; rest = text; is = refl; there = cc; stops = inl nothing }
stop_of p o text tokens extent place e (at_too_great great) = record { before = []; rest = text; is = refl; there = cc; stops = inr great }
stop_of p o text tokens extent place e (past_blank cs after is blank more) = stop_behind p text cs after place is (stop_of _ _ after _ _ place e more)
stop_of p o text tokens extent place e (past_token cs after is longest spells more) = stop_behind p text cs after place is (stop_of _ _ after _ _ place e more)

rest_breaks : (rest : List ℕ) → BeginsNothing rest ⊎ BeginsTooGreat rest → (break : Break) × BreaksAt rest break
rest_breaks rest (inl nothing) = (told rest, breaks rest nothing)
rest_breaks rest (inr great) = (TooGreat, too_great great)

-- the reasons

abbrev HasSome : List ℕ → Code → Place → Type 0
HasSome text code at = (reason : TextReason) × (code ≡ text_code reason) × HasTextReason text reason at

refused_as : (text : List ℕ) (code : Code) (at : Place) → IsRefusedAs text code at → HasSome text code at
refused_as text E01 at (not, is) = (NotUtf8 _, refl, subst (HasTextReason text (NotUtf8 _)) (sym is) (is_not_utf8 not))
refused_as text E02 at (utf8, (tokens, stops)) =
    let stop = stop_of start 0 (chars text) tokens (UpTo at) at refl stops in
    let (break, it) = rest_breaks stop.rest stop.stops in (
      Broken break,
      refl,
      subst (HasTextReason text (Broken break)) (sym stop.there)
          (is_broken stop.before stop.rest break utf8 stop.is (tokens, subst (λ q. IsCut start 0 (chars text) tokens (UpTo q)) stop.there stops) it),
    )
refused_as text E03 at is = absurd is
refused_as text E04 at is = absurd is
refused_as text E05 at is = absurd is
refused_as text E06 at is = absurd is
refused_as text E07 at is = absurd is
refused_as text E08 at is = absurd is
refused_as text E09 at is = absurd is
refused_as text E10 at is = absurd is
refused_as text E11 at is = absurd is
refused_as text E12 at is = absurd is
refused_as text E13 at is = absurd is
refused_as text E14 at is = absurd is
refused_as text E15 at is = absurd is
refused_as text E16 at is = absurd is
refused_as text E17 at is = absurd is
refused_as text E18 at is = absurd is
refused_as text E19 at is = absurd is
refused_as text E30 at is = absurd is
refused_as text E31 at is = absurd is
refused_as text E32 at is = absurd is
refused_as text E33 at is = absurd is
refused_as text E34 at is = absurd is
refused_as text E35 at is = absurd is
refused_as text E36 at is = absurd is
refused_as text E37 at is = absurd is

read_as : (text : List ℕ) (tokens : List SpannedLexeme) (read : ModuleReading) (code : Code) (at : Place) → HasTokens text tokens
    → Reads (without_spans tokens) (place_past start (chars text)) read → of_tokens read ≡ IsNoModule code at → HasSome text code at
read_as text tokens (TreeOf tree) code at has reads e = cc
read_as text tokens (SyntaxError there) code at has (front, rest, is, place, begins, none) e =
    let wants = kinds_found_by_trying_are_wanted front begins in (
      Unwanted (first_of rest) _,
      code_is e,
      subst (HasTextReason text (Unwanted (first_of rest) _)) (sym place ∙ at_is e) (is_unwanted tokens front rest _ has is begins none wants),
    )
  where
    code_is : IsNoModule E03 there ≡ IsNoModule code at → code ≡ E03
    code_is e = cc

    at_is : IsNoModule E03 there ≡ IsNoModule code at → there ≡ at
    at_is e = cc
read_as text tokens (reading.TooHigh there) code at has (front, rest, is, place, begins, high) e =
    (TooHigh, code_is e, subst (HasTextReason text TooHigh) (sym place ∙ at_is e) (is_too_high tokens front rest has is begins high))
  where
    code_is : IsNoModule E04 there ≡ IsNoModule code at → code ≡ E04
    code_is e = cc

    at_is : IsNoModule E04 there ≡ IsNoModule code at → there ≡ at
    at_is e = cc

some_reason : (text : List ℕ) (is : TextReading) (code : Code) (at : Place) → HasReading text is → is ≡ IsNoModule code at → HasSome text code at
some_reason text is code at (has_no_tokens diag refused) e =
    subst (λ c. HasSome text c at) (code_is e) (subst (λ q. HasSome text diag.code q) (at_is e) (refused_as text diag.code diag.place refused))
  where
    code_is : IsNoModule diag.code diag.place ≡ IsNoModule code at → diag.code ≡ code
    code_is e = cc

    at_is : IsNoModule diag.code diag.place ≡ IsNoModule code at → diag.place ≡ at
    at_is e = cc
some_reason text is code at (has_tokens tokens read has reads) e = read_as text tokens read code at has reads e

pub refused_texts_have_a_reason : RefusedTextsHaveAReason
refused_texts_have_a_reason text code at reads = some_reason text (IsNoModule code at) code at reads refl

pub text_reasons_are_of_refusals : TextReasonsAreOfRefusals
text_reasons_are_of_refusals text reason at (is_not_utf8 not) = has_no_tokens (record { code = E01; place = _ }) (not, refl)
text_reasons_are_of_refusals text reason at (is_broken before rest break utf8 is stops it) = has_no_tokens (record { code = E02; place = _ }) (utf8, stops)
text_reasons_are_of_refusals text reason at (is_unwanted tokens front rest wanted has is begins none wants) =
    has_tokens tokens (SyntaxError _) has (front, rest, is, refl, begins, none)
text_reasons_are_of_refusals text reason at (is_too_high tokens front rest has is begins high) =
    has_tokens tokens (reading.TooHigh _) has (front, rest, is, refl, begins, high)

-- and one reason

code_same : {one other : Code} {at place : Place} → IsNoModule one at ≡ IsNoModule other place → one ≡ other
code_same e = cc

place_same : {one other : Code} {at place : Place} → IsNoModule one at ≡ IsNoModule other place → at ≡ place
place_same e = cc

no_more : (front more rest' : List PlacedLexeme) → NoneGoesOn front (more ++ rest') → BeginsLow (front ++ more) → more ≡ []
no_more front [] rest' none begins = refl
no_more front (next ∷ more) rest' none (behind, it, is, low) =
    absurd (none (more ++ behind, it, subst (λ tokens. grammar.IsModule tokens it) (joined ∙ sym again) is))
  where
    joined : (front ++ next ∷ more) ++ behind ≡ front ++ next ∷ (more ++ behind)
    joined = append_assoc front (next ∷ more) behind

    again : (front ++ next ∷ []) ++ (more ++ behind) ≡ front ++ next ∷ (more ++ behind)
    again = append_assoc front (next ∷ []) (more ++ behind)

one_start : (tokens front rest front' rest' : List PlacedLexeme) → tokens ≡ front ++ rest → tokens ≡ front' ++ rest' → BeginsLow front → NoneGoesOn front rest
    → BeginsLow front' → NoneGoesOn front' rest' → (front ≡ front') × (rest ≡ rest')
one_start tokens front rest front' rest' is other low none low' none' =
    elim (cut_twice front rest front' rest' (sym is ∙ other)) [
      | inl (more, same, behind) ↦
          let nothing = no_more front more rest' (subst (NoneGoesOn front) behind none) (subst BeginsLow same low') in
          (sym (same ∙ ap (λ m. front ++ m) nothing ∙ append-nil front), behind ∙ ap (λ m. m ++ rest') nothing)
      | inr (more, same, behind) ↦
          let nothing = no_more front' more rest (subst (NoneGoesOn front') behind none') (subst BeginsLow same low) in
          (same ∙ ap (λ m. front' ++ m) nothing ∙ append-nil front', sym (behind ∙ ap (λ m. m ++ rest) nothing))
    ]

one_reason : (text : List ℕ) (one other : TextReason) (at place : Place) → at ≡ place → text_code one ≡ text_code other
    → HasTextReason text one at → HasTextReason text other place → one ≡ other
one_reason text one other at place same code (is_not_utf8 not) (is_not_utf8 nor) = refl
one_reason text one other at place same code (is_not_utf8 not) (is_broken before rest break utf8 is stops it) = cc
one_reason text one other at place same code (is_not_utf8 not) (is_unwanted tokens front rest wanted has is low none wants) = cc
one_reason text one other at place same code (is_not_utf8 not) (is_too_high tokens front rest has is low high) = cc
one_reason text one other at place same code (is_broken before rest break utf8 is stops it) (is_not_utf8 nor) = cc
one_reason text one other at place same code (is_broken before rest break utf8 is stops it) (is_broken before' rest' break' utf8' is' stops' it') =
    ap Broken (one_break rest break break' it
    (subst (λ r. BreaksAt r break') (sym (one_place (chars text) before rest before' rest' is is' same)) it'))
one_reason text one other at place same code (is_broken before rest break utf8 is stops it) (is_unwanted tokens front rest' wanted has is' low none wants) = cc
one_reason text one other at place same code (is_broken before rest break utf8 is stops it) (is_too_high tokens front rest' has is' low high) = cc
one_reason text one other at place same code (is_unwanted tokens front rest wanted has is low none wants) (is_not_utf8 nor) = cc
one_reason text one other at place same code (is_unwanted tokens front rest wanted has is low none wants) (is_broken before rest' break utf8 is' stops it) = cc
one_reason text one other at place same code (is_unwanted tokens front rest wanted has is low none wants)
    (is_unwanted tokens' front' rest' wanted' has' is' low' none' wants') =
    let tokens_same = one_list text tokens tokens' has has' in
    let (front_same, rest_same) = one_start (without_spans tokens) front rest front' rest' is (ap without_spans tokens_same ∙ is') low none low' none' in
    let wanted_same = tokens_want_one_list_of_kinds front wanted wanted' wants (subst (λ f. AreWanted f wanted') (sym front_same) wants') in
    ap (λ r. Unwanted (first_of r) wanted) rest_same ∙ ap (Unwanted (first_of rest')) wanted_same
one_reason text one other at place same code (is_unwanted tokens front rest wanted has is low none wants) (is_too_high tokens' front' rest' has' is' low' high) = cc
one_reason text one other at place same code (is_too_high tokens front rest has is low high) (is_not_utf8 nor) = cc
one_reason text one other at place same code (is_too_high tokens front rest has is low high) (is_broken before rest' break utf8 is' stops it) = cc
one_reason text one other at place same code (is_too_high tokens front rest has is low high) (is_unwanted tokens' front' rest' wanted has' is' low' none wants) = cc
one_reason text one other at place same code (is_too_high tokens front rest has is low high) (is_too_high tokens' front' rest' has' is' low' more) = refl

pub text_reasons_are_unique : TextReasonsAreUnique
text_reasons_are_unique text one other at place it that =
    let reads = (text_has_one_reading text (IsNoModule (text_code one) at)).0 (text_reasons_are_of_refusals text one at it) in
    let reads_too = (text_has_one_reading text (IsNoModule (text_code other) place)).0 (text_reasons_are_of_refusals text other place that) in
    let same = reads ∙ sym reads_too in
    (one_reason text one other at place (place_same same) (code_same same) it that, place_same same)
