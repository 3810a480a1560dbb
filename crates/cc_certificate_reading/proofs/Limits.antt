-- The limits of certificates, by computation and by induction on how many nodes and boxes there are.
use Rattle.std.proofs.Common.{◌≡◌, ℕ, zero, suc, ◌+◌, ◌-◌, ◌≤◌, ◌<◌, true, false, List, [], ◌∷◌, ◌++◌, length, codes, None, refl, sym, ap, subst, ◌∙◌, arith}
use Rattle.std.specs.Fmt.{digits}
use Rattle.std.specs.Str.{chars, is_utf8}
use Rattle.std.specs.Str.Lossy.{utf8_valid_len}
use Rattle.std.proofs.lemmas.Bool.{and_from}
use Rattle.std.proofs.lemmas.List.{append_assoc}
use Rattle.unicode_ident.proofs.Computing.{unicode_ident}
use lib.Utf8.{encode}
use Rattle.cc_base.specs.Literals.{UnitLiteral}
use Rattle.cc_base.specs.Names.{is_reserved, reserved_words}
use Rattle.cc_base.specs.declared.literal.Base.TheVariants as bases
use Rattle.cc_capture.specs.declared.var.Var.TheVariants.{Bound}
use Rattle.cc_capture.specs.declared.var.Elem.TheVariants.{Var as Variable}
use Rattle.cc_capture.specs.Elements.{element_order}
use Rattle.cc_capture.specs.Rising.{placed}
use Rattle.cc_capture.specs.Sets.{from_list, insert, empty, image}
use Rattle.cc_core.specs.Shapes.{Shape, BaseShape, BoxShape, CapturingType, capturing}
use Rattle.cc_core.specs.Occurrences.{HasNoHole}
use Rattle.cc_core.specs.Terms.{LiteralTerm, VariableTerm, FunctionTerm}
use Rattle.cc_core.specs.Contexts.{entry_of}
use Rattle.cc_core.specs.WellFormed.{Kind, kinds_of, is_well_formed_shape}
use Rattle.cc_core.specs.Derivations.{t-var, OfType}
use Rattle.cc_words.specs.Words.{name_of, number_of}
use Rattle.cc_print.specs.TypeTexts.{shape_under}
use Rattle.cc_certificate_text.specs.Certificates.{Line, Opens, Binds, States, Concludes, Stage, Start, Binding, Proving, Fits, AllFit, IsWhole, Stops, behind_line, behind_lines, binder_number, line_text, lines_text, IsBadLine}
use Rattle.cc_certificate_text.specs.Heights.{shape_height}
use Rattle.cc_certificate_text.specs.LocalNames.{IsLocalNumber, IsNamedShape, placed_shape, has_binder}
use Rattle.cc_certificate_text.specs.Reading.{Wrong, Locals, Printed, Counted, Reader, begun, word_at, exact_at, number_at, same_number_at, shape_at, type_at, shape_parts, shape_over, shape_rule_at, type_over, plain_type_at, captured_at, leaf_at, base_at, some_set_at, set_of, elements_of, element_of, variable_of, local_of, text_at, text_of, term_at, term_over, term_rule_at, plain_term_at}
use Rattle.cc_certificate_text.specs.LineReading.{next_line, line_at, node_at, numbered_node_at, rule_at, rule_of, numbers_at, numbers_of, ends_with, conclusion_at, claim_at, typing_claim_at, value_of, first_at, bind_at, name_at, statement_at}
use Rattle.cc_certificate_text.proofs.Certified.{stops_there}
use Rattle.cc_certificate_reading.specs.ReadingExamples.{text, opening, statement, none, nothing}
use Rattle.cc_certificate_reading.specs.LimitExamples.{leaf_of, string_line, string_leaf, StringOf200IsRead, StringOf201IsBad, GreatestLocalIsRead, GreaterLocalIsBad, over, chain, chain_lines, ManyNodesAreRead, OneNodeMoreIsBad, boxed, boxed_text, bind_with, term_with, node_with, HighSyntaxIsRead, HigherNodeIsBad, HigherBindIsBad, HigherTermIsBad}
use Rattle.cc_certificate_reading.proofs.WorkedCertificates.{no_holes, identity_fits, bad_first_node, some_bytes, no_names}

-- LOCAL VARIABLES

greatest_fits : Fits (Proving [] 0 []) (Concludes (record { rule = t-var; premises = []; first = None; claim = OfType (capturing nothing (from_list (Variable (Bound 4294967295) ∷ []))) }))
unfolding from_list insert empty placed element_order
greatest_fits = record { few = omega arith; kind = refl; named = (tt, (omega arith, tt)); binders = refl; low = omega arith; kept = []; premises = refl }

pub greatest_local : GreatestLocalIsRead
unfolding from_list insert empty placed element_order image digits encode
greatest_local = record { fit = (tt, (identity_fits, (greatest_fits, tt))); whole = refl; written = refl }

pub greater_local : GreaterLocalIsBad
unfolding next_line line_at node_at same_number_at number_at word_at number_of begun exact_at numbered_node_at rule_at rule_of numbers_at numbers_of ends_with conclusion_at claim_at typing_claim_at type_at type_over plain_type_at shape_at shape_over leaf_at base_at captured_at some_set_at set_of elements_of element_of variable_of local_of
greater_local = bad_first_node (text (codes "1 t-var [] : Unit^{_4294967296}" ∷ [])) refl (some_bytes 49 (codes " t-var [] : Unit^{_4294967296}" ++ 10 ∷ []))

-- NODES

leaf_fits : Fits (Proving [] 0 []) (Concludes (leaf_of nothing))
unfolding from_list insert empty placed element_order
leaf_fits = record { few = omega arith; kind = refl; named = (tt, tt); binders = refl; low = omega arith; kept = []; premises = refl }

over_fits : (number : ℕ) → number < 100000 → Fits (Proving [] number (number ∷ [])) (Concludes (over number))
unfolding from_list insert empty placed element_order
over_fits number few = record { few = few; kind = refl; named = (tt, tt); binders = refl; low = omega arith; kept = []; premises = refl }

chain_fits : (count number : ℕ) → number + count ≤ 100000 → AllFit (Proving [] number (number ∷ [])) (chain number count)
unfolding chain
chain_fits zero number few = tt
chain_fits (suc count) number few = (over_fits number (omega (arith, few)), chain_fits count (suc number) (omega (arith, few)))

chain_ends : (count number : ℕ)
    → behind_lines (Proving [] number (number ∷ [])) (chain number count) ≡ Proving [] (number + count) ((number + count) ∷ [])
unfolding chain
chain_ends zero number = let e : number ≡ number + 0 = omega arith in ap (λ n. Proving [] n (n ∷ [])) e
chain_ends (suc count) number =
    let e : suc number + count ≡ number + suc count = omega arith in
    chain_ends count (suc number) ∙ ap (λ n. Proving [] n (n ∷ [])) e

pub many_nodes : ManyNodesAreRead
many_nodes count few = record {
  fit = (tt, ((refl, tt, omega arith), (leaf_fits, chain_fits count 1 (omega (arith, few)))));
  whole = subst IsWhole (sym (chain_ends count 1)) refl;
  written = refl;
}

chain-append : (count number more : ℕ) → chain number (count + more) ≡ chain number count ++ chain (number + count) more
unfolding chain
chain-append zero number more =
    let e : number ≡ number + 0 = omega arith in
    let f : 0 + more ≡ more = omega arith in
    λ i. chain (e i) (f i)
chain-append (suc count) number more =
    let e : suc number + count ≡ number + suc count = omega arith in
    let f : suc count + more ≡ suc (count + more) = omega arith in
    ap (chain number) f
    ∙ ap (λ l. Concludes (over number) ∷ l) (chain-append count (suc number) more ∙ ap (λ n. chain (suc number) count ++ chain n more) e)

lines_text-append : (stage : Stage) (lines more : List Line)
    → lines_text stage (lines ++ more) ≡ lines_text stage lines ++ lines_text (behind_lines stage lines) more
lines_text-append stage [] more = refl
lines_text-append stage (line ∷ lines) more =
    ap (λ l. line_text stage line ++ 10 ∷ l) (lines_text-append (behind_line stage line) lines more)
    ∙ sym (append_assoc (line_text stage line) (10 ∷ lines_text (behind_line stage line) lines) (lines_text (behind_lines (behind_line stage line) lines) more))

length-chain : (count number : ℕ) → length (chain number count) ≡ count
unfolding chain
length-chain zero number = refl
length-chain (suc count) number = ap suc (length-chain count (suc number))

nothing_left : (xs : List ℕ) (b : ℕ) (ys : List ℕ) → xs ++ b ∷ ys ≡ [] → ⊥
nothing_left [] b ys e = cc
nothing_left (x ∷ xs) b ys e = cc

chain_left : (stage : Stage) (number more : ℕ) → lines_text stage (chain number (suc more)) ≡ [] → ⊥
unfolding chain
chain_left stage number more e = nothing_left (line_text stage (Concludes (over number))) 10 _ e

too_many : (line : Line) (unused : List ℕ) → Fits (Proving [] 100000 unused) line → ⊥
too_many Opens unused h = h
too_many (Binds name type) unused h = h
too_many (States term) unused h = h
too_many (Concludes node) unused h = absurd (omega (arith, h.few))

stops_full : (rest unused : List ℕ) → (rest ≡ [] → ⊥) → Stops (Proving [] 100000 unused) rest
stops_full [] unused some = absurd (some refl)
stops_full (b ∷ bs) unused some = λ line behind fits is. too_many line unused fits

chain_bad : (last more : ℕ) → 1 + last ≡ 100000 → IsBadLine (lines_text Start (chain_lines (last + suc more))) 100003
chain_bad last more full =
    let stage = behind_lines Start (chain_lines last) in
    let rest = lines_text stage (chain (1 + last) (suc more)) in
    let ends : stage ≡ Proving [] 100000 (100000 ∷ []) = chain_ends last 1 ∙ ap (λ n. Proving [] n (n ∷ [])) full in
    record {
      lines = chain_lines last;
      fit = (tt, ((refl, tt, omega arith), (leaf_fits, chain_fits last 1 (omega (arith, full)))));
      rest = rest;
      written =
          ap (λ l. lines_text Start (Opens ∷ States (LiteralTerm UnitLiteral) ∷ Concludes (leaf_of nothing) ∷ l)) (chain-append last 1 (suc more))
          ∙ lines_text-append Start (chain_lines last) (chain (1 + last) (suc more));
      stops =
          subst (λ s. Stops s rest) (sym ends)
          (stops_full rest (100000 ∷ []) (chain_left stage (1 + last) more));
      place = (let e : 100003 ≡ suc (suc (suc (suc (length (chain 1 last))))) = omega (arith, full, length-chain last 1) in e);
    }

pub one_node_more : OneNodeMoreIsBad
one_node_more count many =
    let e : 99999 + suc (count - 100000) ≡ count = omega (arith, many) in
    subst (λ c. IsBadLine (lines_text Start (chain_lines c)) 100003) e (chain_bad 99999 (count - 100000) refl)

-- HEIGHTS

height-boxed : (count : ℕ) → shape_height (boxed count) ≡ suc count
unfolding boxed
height-boxed zero = refl
height-boxed (suc count) = ap suc (height-boxed count)

text-boxed : (names : List (List ℕ)) (depth count : ℕ) → shape_under names depth (boxed count) ≡ boxed_text count
unfolding boxed boxed_text from_list empty
text-boxed names depth zero = refl
text-boxed names depth (suc count) = ap (λ t. codes "Box[" ++ (t ++ codes "]")) (text-boxed names depth count)

placed-boxed : (names count : ℕ) → placed_shape names (boxed count) ≡ boxed count
unfolding boxed from_list empty image
placed-boxed names zero = refl
placed-boxed names (suc count) = ap (λ s. BoxShape s none) (placed-boxed names count)

boxed_formed : (kinds : List Kind) (count : ℕ) → is_well_formed_shape kinds [] (boxed count) ≡ true
unfolding boxed from_list empty
boxed_formed kinds zero = refl
boxed_formed kinds (suc count) = and_from _ _ (boxed_formed kinds count) refl

boxed_named : (names depth count : ℕ) → IsNamedShape IsLocalNumber names depth (boxed count)
unfolding boxed from_list empty
boxed_named names depth zero = tt
boxed_named names depth (suc count) = (boxed_named names depth count, tt)

boxed_binds : (count : ℕ) → has_binder (boxed count) ≡ false
unfolding boxed
boxed_binds zero = refl
boxed_binds (suc count) = boxed_binds count

boxed_whole : (count : ℕ) → HasNoHole (boxed count)
unfolding boxed
boxed_whole zero = tt
boxed_whole (suc count) = (boxed_whole count, no_holes)

type_by_shape : (locals : Locals) (names : List (List ℕ)) (depth : ℕ) (shapes : Reader Shape) (count : ℕ) (rest : List ℕ)
    → shapes (boxed_text count ++ rest) ≡ Wrong → type_over locals names shapes depth (boxed_text count ++ rest) ≡ Wrong
unfolding boxed_text type_over plain_type_at begun
type_by_shape locals names depth shapes zero rest e = rw e refl
type_by_shape locals names depth shapes (suc count) rest e = rw e refl

box_too_high : (locals : Locals) (names : List (List ℕ)) (shapes : ℕ → Reader Shape) (depth count : ℕ) (rest : List ℕ)
    → type_over locals names (shapes depth) depth (boxed_text count ++ 93 ∷ rest) ≡ Wrong
    → shape_over locals (shape_parts locals names shapes) depth (boxed_text (suc count) ++ rest) ≡ Wrong
unfolding boxed_text shape_over shape_rule_at begun
box_too_high locals names shapes depth count rest e = rw (append_assoc (boxed_text count) (codes "]") rest, e) refl

shape_too_high : (locals : Locals) (names : List (List ℕ)) (room depth count : ℕ) (rest : List ℕ) → room ≤ count
    → shape_at locals names room depth (boxed_text count ++ rest) ≡ Wrong
unfolding shape_at
shape_too_high locals names zero depth count rest high = refl
shape_too_high locals names (suc room) depth zero rest high = absurd (omega (arith, high))
shape_too_high locals names (suc room) depth (suc count) rest high =
    box_too_high locals names (shape_at locals names room) depth count rest
    (type_by_shape locals names depth (shape_at locals names room depth) count (93 ∷ rest)
    (shape_too_high locals names room depth count (93 ∷ rest) (omega (arith, high))))

type_too_high : (locals : Locals) (names : List (List ℕ)) (room depth count : ℕ) (rest : List ℕ) → room ≤ count
    → type_at locals names room depth (boxed_text count ++ rest) ≡ Wrong
unfolding type_at
type_too_high locals names room depth count rest high =
    type_by_shape locals names depth (shape_at locals names room depth) count rest
    (shape_too_high locals names room depth count rest high)

no_node : (bytes : List ℕ) → type_at Printed [] 5000 (binder_number (value_of (first_at 5000 bytes))) bytes ≡ Wrong
    → next_line (Proving [] 0 []) (codes "1 t-lit [] : " ++ bytes) ≡ Wrong
unfolding next_line line_at node_at same_number_at number_at word_at number_of begun exact_at numbered_node_at rule_at rule_of numbers_at numbers_of ends_with conclusion_at claim_at typing_claim_at
no_node bytes e = rw e refl

pub higher_node : HigherNodeIsBad
higher_node count high =
    bad_first_node (text (node_with count ∷ []))
    (no_node (boxed_text count ++ 10 ∷ []) (type_too_high Printed [] 5000 _ count (10 ∷ []) high)) (some_bytes 49 _)

-- behind the first line none begins with these bytes
bad_second : (rest : List ℕ) → next_line (Binding [] []) rest ≡ Wrong → (rest ≡ [] → ⊥) → IsBadLine (text (opening ∷ []) ++ rest) 2
bad_second rest wrong some = record {
  lines = Opens ∷ [];
  fit = (tt, tt);
  rest = rest;
  written = refl;
  stops = stops_there (Binding [] []) rest (tt, no_names, tt, refl) wrong some;
  place = refl;
}

no_bind : (bytes : List ℕ) → type_at Counted [] 5000 0 bytes ≡ Wrong
    → next_line (Binding [] []) (codes "bind a: " ++ bytes) ≡ Wrong
unfolding next_line line_at begun exact_at bind_at name_at name_of unicode_ident encode is_utf8 utf8_valid_len chars is_reserved reserved_words
no_bind bytes e = rw e refl

pub higher_bind : HigherBindIsBad
higher_bind count high =
    bad_second (text (bind_with count ∷ statement ∷ []))
    (no_bind (boxed_text count ++ text ([] ∷ statement ∷ [])) (type_too_high Counted [] 5000 0 count (text ([] ∷ statement ∷ [])) high))
    (some_bytes 98 _)

no_function : (room : ℕ) (bytes : List ℕ) → type_over Counted [] (shape_at Counted [] room 0) 0 bytes ≡ Wrong
    → term_at [] (suc room) 0 (codes "fun (_0: " ++ bytes) ≡ Wrong
unfolding term_at term_over term_rule_at begun same_number_at number_at word_at number_of exact_at
no_function room bytes e = rw e refl

no_statement : (bytes : List ℕ) → term_at [] 5000 0 bytes ≡ Wrong → next_line (Binding [] []) (codes "term " ++ bytes) ≡ Wrong
unfolding next_line line_at begun statement_at
no_statement bytes e = rw e refl

pub higher_term : HigherTermIsBad
higher_term count high =
    let behind : List ℕ = codes ") => _0" ++ 10 ∷ [] in
    let e = append_assoc (boxed_text count) (codes ") => _0") (10 ∷ []) in
    let wrong : term_at [] 5000 0 (codes "fun (_0: " ++ (boxed_text count ++ behind)) ≡ Wrong =
    no_function 4999 (boxed_text count ++ behind)
    (type_by_shape Counted [] 0 (shape_at Counted [] 4999 0) count behind (shape_too_high Counted [] 4999 0 count behind high)) in
    bad_second (text (term_with count ∷ []))
    (no_statement (codes "fun (_0: " ++ ((boxed_text count ++ codes ") => _0") ++ 10 ∷ []))
    (subst (λ l. term_at [] 5000 0 (codes "fun (_0: " ++ l) ≡ Wrong) (sym e) wrong))
    (some_bytes 116 _)

bind_fits : (count : ℕ) → count < 5000 → Fits (Binding [] []) (Binds (codes "a") (capturing (boxed count) none))
unfolding from_list empty unicode_ident is_reserved reserved_words
bind_fits count low =
    (refl, refl, and_from _ _ (boxed_formed [] count) refl, (boxed_whole count, no_holes), omega (arith, height-boxed count, low))

term_fits : (type : CapturingType) (count : ℕ) → count < 4999
    → Fits (Binding (codes "a" ∷ []) (entry_of type ∷ [])) (States (FunctionTerm (boxed count) none (VariableTerm (Bound 0))))
unfolding from_list empty
term_fits type count low = (
  and_from _ _ (and_from _ _ (boxed_formed (kinds_of (entry_of type ∷ [])) count) refl) refl,
  (boxed_whole count, no_holes, tt),
  omega (arith, height-boxed count, low),
)

node_fits : (names : List (List ℕ)) (count : ℕ) → count < 5000 → Fits (Proving names 0 []) (Concludes (leaf_of (boxed count)))
unfolding from_list empty
node_fits names count low = record {
  few = omega arith;
  kind = refl;
  named = (boxed_named (length names) 0 count, tt);
  binders = boxed_binds count;
  low = omega (arith, height-boxed count, low);
  kept = [];
  premises = refl;
}

pub high_syntax : HighSyntaxIsRead
unfolding from_list insert empty placed element_order image digits encode
high_syntax types terms t u =
    let names : List (List ℕ) = codes "a" ∷ [] in
    let bound : boxed_text types ≡ shape_under [] 0 (boxed types) = sym (text-boxed [] 0 types) in
    let stated : boxed_text terms ++ codes ") => _0" ≡ (shape_under names 0 (boxed terms) ++ codes ") => ") ++ codes "_0" =
    sym (append_assoc (boxed_text terms) (codes ") => ") (codes "_0"))
    ∙ ap (λ l. (l ++ codes ") => ") ++ codes "_0") (sym (text-boxed names 0 terms)) in
    let concluded : boxed_text types ≡ shape_under names 0 (placed_shape 1 (boxed types)) =
    sym (ap (shape_under names 0) (placed-boxed 1 types) ∙ text-boxed names 0 types) in
    record {
      fit = (tt, (bind_fits types t, (term_fits (capturing (boxed types) none) terms u, (node_fits names types t, tt))));
      whole = refl;
      written = λ i.
          codes "cert 1" ++ 10 ∷ ((codes "bind a: " ++ bound i) ++ 10 ∷ ((codes "term fun (_0: " ++ stated i)
          ++ 10 ∷ ((codes "1 t-lit [] : " ++ concluded i) ++ 10 ∷ [])));
    }

-- STRINGS

string_leaf_fits : Fits (Proving [] 0 []) (Concludes (leaf_of (BaseShape bases.Str)))
unfolding from_list insert empty placed element_order
string_leaf_fits = record { few = omega arith; kind = refl; named = (tt, tt); binders = refl; low = omega arith; kept = []; premises = refl }

pub string_of_200 : StringOf200IsRead
unfolding from_list insert empty placed element_order image digits encode
string_of_200 = record {
  fit = (tt, ((refl, (refl, refl, omega arith), omega arith), (string_leaf_fits, tt)));
  whole = refl;
  written = refl;
}

pub string_of_201 : StringOf201IsBad
unfolding next_line line_at begun statement_at term_at term_over plain_term_at text_at text_of encode is_utf8 utf8_valid_len chars
string_of_201 = bad_second (text (string_line 201 ∷ string_leaf ∷ [])) refl (some_bytes 116 _)
