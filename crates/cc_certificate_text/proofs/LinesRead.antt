-- What is read as a line at a stage fits there, and the text of a line that fits is read.
use Rattle.std.proofs.Common.{◌≡◌, ℕ, zero, suc, ◌+◌, ◌-◌, ◌^◌, ◌<◌, ◌≤◌, Bool, true, false, not, ◌||◌, List, [], ◌∷◌, ◌++◌, map, take, Option, Some, None, length, codes, bytes_eq, refl, sym, ap, subst, ◌∙◌, arith, append_assoc, inl}
use Rattle.std.specs.Prelude.{encode_utf8_all}
use Rattle.std.specs.List.{AllByRecursion, IsDistinct, list_any}
use Rattle.std.proofs.lemmas.Bool.{true≢false}
use Rattle.std.proofs.lemmas.List.{length-append}
use Rattle.std.proofs.lemmas.Slice.Eq.{bytes_eq-Decides}
use Rattle.cc_base.specs.Names.{IsName}
use Rattle.cc_core.specs.Shapes.{CapturingType, capturing}
use Rattle.cc_core.specs.Terms.{Term}
use Rattle.cc_core.specs.Contexts.{Bind, Context, entry_of}
use Rattle.cc_core.specs.WellFormed.{Kind, TermKind, kinds_of, is_well_formed_type, is_well_formed_term}
use Rattle.cc_core.proofs.KindFacts.{IsKindedType-from, IsKindedTerm-from}
use Rattle.cc_words.specs.Words.{after_prefix, cut_at, name_of}
use Rattle.cc_words.proofs.Steps.{cut_at_gives, cut_at-append, name_of_gives}
use Rattle.cc_words.proofs.NameBytes.{Lacks-name, name_of-encoded}
use Rattle.cc_print.specs.TypeTexts.{type_text, type_under}
use Rattle.cc_print.proofs.Words.{clash}
use Rattle.cc_certificate_text.specs.Heights.{shape_height, term_height}
use Rattle.cc_print.specs.TermTexts.{term_under}
use Rattle.cc_certificate_text.specs.Certificates.{CertificateNode, Line, Opens, Binds, States, Concludes, Stage, Start, Binding, Proving, names_at, used_up, behind_line, line_text, Fits}
use Rattle.cc_certificate_text.specs.Reading.{Found, Got, Wrong, Reader, ◌>>=◌, where_true, begun, Counted, exact_at, type_at, term_at}
use Rattle.cc_certificate_text.specs.LineReading.{name_of_cut, name_at, bind_at, statement_at, line_at}
use Rattle.cc_certificate_text.proofs.Readers.{got_from_bind, got_from_option, got_from_test, got_parts, begun_gives, begun-text, begun-none, exact_at_gives, exact_at-text}
use Rattle.cc_certificate_text.proofs.ReadSets.{false_unless}
use Rattle.cc_certificate_text.proofs.ReadTypes.{ttext}
use Rattle.cc_certificate_text.proofs.ReadShapes.{GoodType, type_at_gives, type_at-text}
use Rattle.cc_certificate_text.proofs.ReadTerms.{counted_ttext, EndsTerm, GoodTerm}
use Rattle.cc_certificate_text.proofs.TermRules.{four_texts}
use Rattle.cc_certificate_text.proofs.TermsRead.{term_at_gives, term_at-text}
use Rattle.cc_certificate_text.proofs.KindedNames.{AllTerms, named_shape, named_set, shape_no_hole, set_no_hole, named_term, term_written}
use Rattle.cc_certificate_text.proofs.NodeReading.{IsLow, node_at_gives, node_at-text}

-- what holds of each stage that lines lead to
abbrev pub StageOk : Stage → Type 0
StageOk Start = Unit {0}
StageOk (Binding names context) =
    AllByRecursion IsName names × IsDistinct bytes_eq names × AllTerms (kinds_of context) × (length (kinds_of context) ≡ length names)
StageOk (Proving names count unused) = AllByRecursion IsName names × IsDistinct bytes_eq names × AllByRecursion IsLow unused

all_append : {A : Type 0} (P : A → Type 0) (xs ys : List A) → AllByRecursion P xs → AllByRecursion P ys → AllByRecursion P (xs ++ ys)
all_append P [] ys h k = k
all_append P (x ∷ xs) ys h k = (h.0, all_append P xs ys h.1 k)

all_take : {A : Type 0} (P : A → Type 0) (n : ℕ) (xs : List A) → AllByRecursion P xs → AllByRecursion P (take n xs)
all_take P zero xs h = tt
all_take P (suc n) [] h = tt
all_take P (suc n) (x ∷ xs) h = (h.0, all_take P n xs h.1)

any_parts : (a b : Bool) → (a || b) ≡ false → (a ≡ false) × (b ≡ false)
any_parts true b h = cc
any_parts false b h = (refl, h)

-- a name that none of the names is, behind them
distinct_snoc : (names : List (List ℕ)) (name : List ℕ) → IsDistinct bytes_eq names → list_any (bytes_eq name) names ≡ false
    → IsDistinct bytes_eq (names ++ name ∷ [])
unfolding IsDistinct
distinct_snoc [] name apart fresh = (tt, tt)
distinct_snoc (n ∷ names) name apart fresh =
    let parts = any_parts (bytes_eq name n) (list_any (bytes_eq name) names) fresh in (
      all_append (λ y. bytes_eq n y ≡ false) names (name ∷ []) apart.0
          (false_unless (bytes_eq n name) (λ t. clash (bytes_eq name n) ((bytes_eq-Decides name n).1 (sym ((bytes_eq-Decides n name).0 t))) parts.0), tt),
      distinct_snoc names name apart.1 parts.1,
    )

no_names : IsDistinct bytes_eq []
unfolding IsDistinct
no_names = tt

pub ok_behind : (stage : Stage) (line : Line) → StageOk stage → Fits stage line → StageOk (behind_line stage line)
ok_behind Start Opens ok fits = (tt, no_names, tt, refl)
ok_behind Start (Binds name type) ok fits = absurd fits
ok_behind Start (States term) ok fits = absurd fits
ok_behind Start (Concludes node) ok fits = absurd fits
ok_behind (Binding names context) Opens ok fits = absurd fits
ok_behind (Binding names context) (Binds name type) ok fits = (
  all_append IsName names (name ∷ []) ok.0 (fits.0, tt),
  distinct_snoc names name ok.1 fits.1,
  (refl, ok.2),
  (let l = length-append names (name ∷ []) in omega (arith, l, ok.3)),
)
ok_behind (Binding names context) (States term) ok fits = (ok.0, ok.1, tt)
ok_behind (Binding names context) (Concludes node) ok fits = absurd fits
ok_behind (Proving names count unused) Opens ok fits = absurd fits
ok_behind (Proving names count unused) (Binds name type) ok fits = absurd fits
ok_behind (Proving names count unused) (States term) ok fits = absurd fits
ok_behind (Proving names count unused) (Concludes node) ok fits = (
  ok.0,
  ok.1,
  all_append IsLow (take (length unused - length node.premises) unused) (suc count ∷ [])
      (all_take IsLow (length unused - length node.premises) unused ok.2) (let few = fits.few in omega (arith, few), tt),
)

not_false : (b : Bool) → not b ≡ true → b ≡ false
not_false true h = cc
not_false false h = refl

name_cut_gives : (bytes name rest : List ℕ) (o : Option (List ℕ × List ℕ)) → cut_at 58 bytes ≡ o → name_of_cut o ≡ Got name rest
    → IsName name × (bytes ≡ encode_utf8_all name ++ 58 ∷ rest)
name_cut_gives bytes name rest None e h = cc
name_cut_gives bytes name rest (Some cut) e h =
    let found = got_from_option (name_of cut.0) cut.1 name rest h in
    let given = name_of_gives cut.0 name found.0 in
    (given.0, cut_at_gives 58 bytes cut.0 cut.1 e ∙ (λ i. given.1 i ++ 58 ∷ found.1 i))

name_at_gives : (bytes name rest : List ℕ) → name_at bytes ≡ Got name rest → IsName name × (bytes ≡ encode_utf8_all name ++ 58 ∷ rest)
unfolding name_at
name_at_gives bytes name rest h = name_cut_gives bytes name rest (cut_at 58 bytes) refl h

name_at-text : (name rest : List ℕ) → IsName name → name_at (encode_utf8_all name ++ 58 ∷ rest) ≡ Got name rest
unfolding name_at
name_at-text name rest is =
    rw (cut_at-append 58 (encode_utf8_all name) rest (Lacks-name 58 name refl is), name_of-encoded name is) refl

module _ (names : List (List ℕ)) (context : Context) (ok : StageOk (Binding names context)) where
  bind_at_gives : (bytes : List ℕ) (line : Line) (rest : List ℕ) → bind_at names context bytes ≡ Got line rest
      → Fits (Binding names context) line × (codes "bind " ++ bytes ≡ line_text (Binding names context) line ++ rest)
  unfolding bind_at
  bind_at_gives bytes line rest h =
      let all = ok.0 in
      let apart = ok.1 in
      let name = got_from_bind (name_at bytes) (λ name r. where_true (not (list_any (bytes_eq name) names)) (exact_at (codes " ") r) >>= λ space r.
      type_at Counted names 5000 0 r >>= λ type behind. where_true (is_well_formed_type (kinds_of context) [] type) (Got (Binds name type) behind)) line rest h in
      let space = got_from_bind (where_true (not (list_any (bytes_eq name.0) names)) (exact_at (codes " ") name.1)) (λ space r.
      type_at Counted names 5000 0 r >>= λ type behind. where_true (is_well_formed_type (kinds_of context) [] type) (Got (Binds name.0 type) behind)) line rest name.3 in
      let fresh = got_from_test (not (list_any (bytes_eq name.0) names)) (exact_at (codes " ") name.1) space.0 space.1 space.2 in
      let type = got_from_bind (type_at Counted names 5000 0 space.1) (λ type behind.
      where_true (is_well_formed_type (kinds_of context) [] type) (Got (Binds name.0 type) behind)) line rest space.3 in
      let formed = got_from_test (is_well_formed_type (kinds_of context) [] type.0) (Got (Binds name.0 type.0) type.1) line rest type.3 in
      let same = got_parts (Binds name.0 type.0) line type.1 rest formed.1 in
      let named = name_at_gives bytes name.0 name.1 name.2 in
      let given = type_at_gives names all apart Counted 5000 0 space.1 type.0 type.1 type.2 in
      subst (λ l. Fits (Binding names context) l × (codes "bind " ++ bytes ≡ line_text (Binding names context) l ++ rest)) same.0 (
        (
          named.0,
          not_false (list_any (bytes_eq name.0) names) fresh.0,
          formed.0,
          (shape_no_hole names all apart (kinds_of context) ok.2 ok.3 type.0.shape 0 0 given.0.0.0, set_no_hole names all apart (kinds_of context) ok.2 ok.3 0 0 type.0.set given.0.1),
          given.0.0.1,
        ),
        ap (λ z. codes "bind " ++ z) (named.1 ∙ ap (λ z. encode_utf8_all name.0 ++ 58 ∷ z) (exact_at_gives (codes " ") name.1 space.1 space.0 fresh.1
            ∙ ap (λ z. 32 ∷ z) (given.1 ∙ (λ i. counted_ttext names all apart 0 type.0 i ++ same.1 i))))
            ∙ sym (four_texts (codes "bind ") (encode_utf8_all name.0) (codes ": ") (type_text names 0 type.0) rest),
      )

  statement_at_gives : (bytes : List ℕ) (line : Line) (rest : List ℕ) → statement_at names context bytes ≡ Got line rest
      → Fits (Binding names context) line × (codes "term " ++ bytes ≡ line_text (Binding names context) line ++ rest)
  unfolding statement_at
  statement_at_gives bytes line rest h =
      let all = ok.0 in
      let apart = ok.1 in
      let term = got_from_bind (term_at names 5000 0 bytes) (λ term r. where_true (is_well_formed_term (kinds_of context) [] term) (Got (States term) r)) line rest h in
      let formed = got_from_test (is_well_formed_term (kinds_of context) [] term.0) (Got (States term.0) term.1) line rest term.3 in
      let same = got_parts (States term.0) line term.1 rest formed.1 in
      let given = term_at_gives names all apart 5000 0 bytes term.0 term.1 term.2 in
      subst (λ l. Fits (Binding names context) l × (codes "term " ++ bytes ≡ line_text (Binding names context) l ++ rest)) same.0 (
        (formed.0, term_written names all apart (kinds_of context) ok.2 ok.3 term.0 0 given.0.0, given.0.1),
        ap (λ z. codes "term " ++ z) (given.1 ∙ ap (λ z. term_under names 0 term.0 ++ z) same.1),
      )

  bind_good : (name : List ℕ) (type : CapturingType) → Fits (Binding names context) (Binds name type) → GoodType names ok.0 ok.1 Counted 5000 0 type
  bind_good name type fits =
      let kinded = IsKindedType-from (kinds_of context) [] type fits.2 in
      let low = fits.4 in (
        (named_shape names ok.0 ok.1 (kinds_of context) ok.2 ok.3 type.shape [] 0 kinded.0 fits.3.0 (omega (arith, low)), low),
        named_set names ok.0 ok.1 (kinds_of context) ok.2 ok.3 [] 0 type.set kinded.1 fits.3.1 (omega arith),
      )

  bind_at-text : (name : List ℕ) (type : CapturingType) (rest : List ℕ) → Fits (Binding names context) (Binds name type)
      → bind_at names context (encode_utf8_all name ++ 58 ∷ (codes " " ++ (type_text names 0 type ++ 10 ∷ rest))) ≡ Got (Binds name type) (10 ∷ rest)
  unfolding bind_at
  bind_at-text name type rest fits =
      let read : type_at Counted names 5000 0 (type_text names 0 type ++ 10 ∷ rest) ≡ Got type (10 ∷ rest) =
      subst (λ t. type_at Counted names 5000 0 (t ++ 10 ∷ rest) ≡ Got type (10 ∷ rest)) (counted_ttext names ok.0 ok.1 0 type)
      (type_at-text names ok.0 ok.1 Counted 5000 0 type (10 ∷ rest) (bind_good name type fits) (refl, refl)) in
      rw (
        name_at-text name (codes " " ++ (type_text names 0 type ++ 10 ∷ rest)) fits.0,
        fits.1,
        exact_at-text (codes " ") (type_text names 0 type ++ 10 ∷ rest),
        read,
        fits.2,
      ) refl

  statement_at-text : (term : Term) (rest : List ℕ) → Fits (Binding names context) (States term)
      → statement_at names context (term_under names 0 term ++ 10 ∷ rest) ≡ Got (States term) (10 ∷ rest)
  unfolding statement_at
  statement_at-text term rest fits =
      let kinded = IsKindedTerm-from (kinds_of context) [] term fits.0 in
      let low = fits.2 in
      let good : GoodTerm names ok.0 ok.1 5000 0 term =
      (named_term names ok.0 ok.1 (kinds_of context) ok.2 ok.3 term [] kinded fits.1 (omega (arith, low)), low) in
      rw (term_at-text names ok.0 ok.1 5000 0 term (10 ∷ rest) good (inl (rest, refl)), fits.0) refl

  binding_gives : (bytes : List ℕ) (line : Line) (rest : List ℕ) → line_at (Binding names context) bytes ≡ Got line rest
      → Fits (Binding names context) line × (bytes ≡ line_text (Binding names context) line ++ rest)
  unfolding line_at
  binding_gives bytes line rest h =
      let P : Type 0 = Fits (Binding names context) line × (bytes ≡ line_text (Binding names context) line ++ rest) in
      begun_gives bytes (codes "bind ") (bind_at names context) _ line rest P
      (λ r e k. (let given = bind_at_gives r line rest k in (given.0, e ∙ given.1)))
      (λ k. begun_gives bytes (codes "term ") (statement_at names context) Wrong line rest P
      (λ r e k. (let given = statement_at_gives r line rest k in (given.0, e ∙ given.1))) (λ k. cc) k) h

  bind_front : (after : List ℕ) → line_at (Binding names context) (codes "bind " ++ after) ≡ bind_at names context after
  unfolding line_at begun
  bind_front after = refl

  term_front : (after : List ℕ) → line_at (Binding names context) (codes "term " ++ after) ≡ statement_at names context after
  unfolding line_at begun
  term_front after = refl

start_gives : (bytes : List ℕ) (line : Line) (rest : List ℕ) → line_at Start bytes ≡ Got line rest
    → Fits Start line × (bytes ≡ line_text Start line ++ rest)
unfolding line_at
start_gives bytes line rest h =
    let text = got_from_bind (exact_at (codes "cert 1") bytes) (λ t r. Got Opens r) line rest h in
    let same = got_parts Opens line text.1 rest text.3 in
    subst (λ l. Fits Start l × (bytes ≡ line_text Start l ++ rest)) same.0
    (tt, exact_at_gives (codes "cert 1") bytes text.1 text.0 text.2 ∙ ap (λ z. codes "cert 1" ++ z) same.1)

start-text : (rest : List ℕ) → line_at Start (codes "cert 1" ++ rest) ≡ Got Opens rest
unfolding line_at
start-text rest = rw (exact_at-text (codes "cert 1") rest) refl

proving_gives : (names : List (List ℕ)) (count : ℕ) (unused : List ℕ) (all : AllByRecursion IsName names) (apart : IsDistinct bytes_eq names)
    (bytes : List ℕ) (line : Line) (rest : List ℕ) → line_at (Proving names count unused) bytes ≡ Got line rest
    → Fits (Proving names count unused) line × (bytes ≡ line_text (Proving names count unused) line ++ rest)
unfolding line_at
proving_gives names count unused all apart bytes line rest h =
    let given = node_at_gives names all apart count unused bytes line rest h in
    subst (λ l. Fits (Proving names count unused) l × (bytes ≡ line_text (Proving names count unused) l ++ rest)) given.1 (given.2, given.3)

proving-text : (names : List (List ℕ)) (count : ℕ) (unused : List ℕ) (node : CertificateNode) (rest : List ℕ)
    → StageOk (Proving names count unused) → Fits (Proving names count unused) (Concludes node)
    → line_at (Proving names count unused) (line_text (Proving names count unused) (Concludes node) ++ 10 ∷ rest) ≡ Got (Concludes node) (10 ∷ rest)
unfolding line_at
proving-text names count unused node rest ok fits =
    node_at-text names ok.0 ok.1 count unused node (10 ∷ rest) ok.2 fits (refl, refl)

-- what is read as a line fits, and the bytes begin with its text
pub line_at_gives : (stage : Stage) (bytes : List ℕ) (line : Line) (rest : List ℕ) → StageOk stage → line_at stage bytes ≡ Got line rest
    → Fits stage line × (bytes ≡ line_text stage line ++ rest)
line_at_gives Start bytes line rest ok h = start_gives bytes line rest h
line_at_gives (Binding names context) bytes line rest ok h = binding_gives names context ok bytes line rest h
line_at_gives (Proving names count unused) bytes line rest ok h = proving_gives names count unused ok.0 ok.1 bytes line rest h

-- the text of a line that fits is read as that line
pub line_at-text : (stage : Stage) (line : Line) (rest : List ℕ) → StageOk stage → Fits stage line
    → line_at stage (line_text stage line ++ 10 ∷ rest) ≡ Got line (10 ∷ rest)
line_at-text Start Opens rest ok fits = start-text (10 ∷ rest)
line_at-text Start (Binds name type) rest ok fits = absurd fits
line_at-text Start (States term) rest ok fits = absurd fits
line_at-text Start (Concludes node) rest ok fits = absurd fits
line_at-text (Binding names context) Opens rest ok fits = absurd fits
line_at-text (Binding names context) (Binds name type) rest ok fits =
    subst (λ b. line_at (Binding names context) b ≡ Got (Binds name type) (10 ∷ rest))
    (sym (four_texts (codes "bind ") (encode_utf8_all name) (codes ": ") (type_text names 0 type) (10 ∷ rest)))
    (bind_front names context ok (encode_utf8_all name ++ 58 ∷ (codes " " ++ (type_text names 0 type ++ 10 ∷ rest)))
    ∙ bind_at-text names context ok name type rest fits)
line_at-text (Binding names context) (States term) rest ok fits =
    term_front names context ok (term_under names 0 term ++ 10 ∷ rest) ∙ statement_at-text names context ok term rest fits
line_at-text (Binding names context) (Concludes node) rest ok fits = absurd fits
line_at-text (Proving names count unused) Opens rest ok fits = absurd fits
line_at-text (Proving names count unused) (Binds name type) rest ok fits = absurd fits
line_at-text (Proving names count unused) (States term) rest ok fits = absurd fits
line_at-text (Proving names count unused) (Concludes node) rest ok fits = proving-text names count unused node rest ok fits
