-- The lines of submissions, and bytes that are none.
use Rattle.std.proofs.Common.{◌≡◌, ◌≢◌, inl, inr, ℕ, zero, suc, ◌+◌, ◌<◌, ◌≤◌, List, [], ◌∷◌, ◌++◌, length, take, drop, refl, sym, ap, subst, ◌∙◌, arith, append_assoc, append-nil, length-append}
use Rattle.std.specs.Prelude.{codes, encode_utf8_all, ℤ, pos, negsuc, IsTrue}
use Rattle.std.specs.List.{AllByRecursion, flat_map}
use Rattle.std.specs.Fmt.{decimal, signed_decimal}
use Rattle.std.proofs.Math.Seq.{take-append_seam}
use Rattle.std.proofs.lemmas.Bool.Decides.{nat_tests}
use Rattle.std.proofs.lemmas.Grind.{flat_map-append}
use Rattle.std.proofs.lemmas.List.{take-append-drop, take-append-le}
use Rattle.cc_base.specs.declared.device.Kind.{Kind}
use Rattle.cc_base.specs.declared.device.Kind.TheVariants.{Console, File, Counter}
use Rattle.cc_job.specs.Jobs as job
use Rattle.cc_job.specs.Jobs.{text}
use Rattle.cc_words.specs.Lines.{Line, lines_of, AreWholeLines}
use Rattle.cc_words.specs.Words.{pair_text, IsPair, signed_of, has_64_bits}
use Rattle.cc_words.proofs.Steps.{Lacks, Lacks-append}
use Rattle.cc_words.proofs.NameBytes.{Lacks-name}
use Rattle.cc_words.proofs.Splits.{AllLack, Lacks-test, Lacks-joined}
use Rattle.cc_words.proofs.LineLists.{lines-lack, AllLack-append, cons_parts}
use Rattle.cc_words.proofs.Numbers.{Lacks-decimal, AllLack-map}
use Rattle.cc_vouching.specs.Submissions.{Submission, Item, Declares, Presents, Claims, IsItem, item_lines, items_of, first_line, submission_lines, IsFit, IsSubmission, BeginsSubmission}
use Rattle.cc_submission_reading.specs.Submitting.{nothing_yet, GoesOn, IsOpen, MayAllBeSaid, behind_items}
use Rattle.cc_submission_reading.specs.SubmissionReadingLaws.{lines_with, WholeSubmissionsAreHeard, SubmissionsAreHeardWhole, AMissingFeedIsTold, ABadLineIsTold, AnEndWithinAnItemIsTold, AnotherFirstLineIsTold, NoLineIsTold}
use Rattle.cc_submission_reading.proofs.SubmissionHeads.{lines_of_text, whole_text}
use Rattle.cc_submission_reading.proofs.ItemFronts.{is_item}
use Rattle.cc_submission_reading.proofs.SaidItems.{said_more, said_items, submitted_items}
use Rattle.cc_submission_reading.proofs.OneReading.{text_of_lines, parts_of, one_item, left_behind}

-- no line of an item has a line feed
signed_lacks : (z : ℤ) → IsTrue (has_64_bits z) → Lacks 10 (signed_decimal z)
signed_lacks (pos n) fits = Lacks-decimal 10 n (omega arith) (grind (arith, nat_tests))
signed_lacks (negsuc n) fits = (refl, Lacks-decimal 10 (suc n) (omega arith) (grind (arith, nat_tests)))

kind_lacks : (kind : Kind) → job.IsKind kind → AllLack 10 (job.kind_words kind)
kind_lacks Console is = (Lacks-test 10 (codes "console") refl, tt)
kind_lacks (File numbers) is =
    (Lacks-test 10 (codes "file") refl, AllLack-map signed_of (λ z. IsTrue (has_64_bits z)) signed_decimal 10 (λ z h. signed_lacks z h) numbers is)
kind_lacks Counter is = (Lacks-test 10 (codes "counter") refl, tt)

pair_lacks : (pair : List ℕ × List ℕ) → IsPair pair → Lacks 10 (pair_text pair)
pair_lacks pair is =
    Lacks-append 10 (encode_utf8_all pair.0 ++ codes ".") (encode_utf8_all pair.1)
    (Lacks-append 10 (encode_utf8_all pair.0) (codes ".") (Lacks-name 10 pair.0 refl is.0) (refl, tt))
    (Lacks-name 10 pair.1 refl is.1)

item_lacks : (item : Item) → IsItem item → AllLack 10 (item_lines item)
item_lacks (Declares device) is = (
  Lacks-joined 32 10 (job.item_words (job.Declares device)) refl
      (Lacks-test 10 (codes "device") refl, (Lacks-name 10 device.name refl is.0, kind_lacks device.kind is.1)),
  tt,
)
item_lacks (Presents name source) is = (
  Lacks-joined 32 10 (codes "module" ∷ encode_utf8_all name ∷ decimal (length (lines_of source)) ∷ []) refl
      (Lacks-test 10 (codes "module") refl, (Lacks-name 10 name refl is.0, (Lacks-decimal 10 (length (lines_of source)) (omega arith) (omega (arith, is.1.1)), tt))),
  lines-lack source,
)
item_lacks (Claims owner definition certificate) is = (
  Lacks-joined 32 10 (codes "claim" ∷ pair_text (owner, definition) ∷ decimal (length (lines_of certificate)) ∷ []) refl
      (Lacks-test 10 (codes "claim") refl, (pair_lacks (owner, definition) is.0, (Lacks-decimal 10 (length (lines_of certificate)) (omega arith) (omega (arith, is.1.1)), tt))),
  lines-lack certificate,
)

items_lack : (items : List Item) → AllByRecursion IsItem items → AllLack 10 (flat_map item_lines items)
items_lack [] are = tt
items_lack (item ∷ items) are = AllLack-append 10 (item_lines item) (flat_map item_lines items) (item_lacks item are.0) (items_lack items are.1)

-- the lines of the bytes of a submission
submission_lines_are : (bytes : List ℕ) (submission : Submission) → IsSubmission bytes submission → lines_of bytes ≡ submission_lines submission
submission_lines_are bytes submission is =
    ap lines_of is.written ∙ lines_of_text (submission_lines submission) (Lacks-test 10 first_line refl, items_lack (items_of submission) is.fit.items)

pub heard_whole : SubmissionsAreHeardWhole
heard_whole bytes submission is =
    (submitted_items submission is.fit, submission_lines_are bytes submission is, subst AreWholeLines (sym is.written) (whole_text (submission_lines submission)))

pub whole_heard : WholeSubmissionsAreHeard
whole_heard bytes items said lines whole =
    let made = said_items items said in (
      made.0,
      record { fit = made.1; written = sym (text_of_lines bytes whole) ∙ ap text (lines ∙ ap lines_with (sym made.2)) },
      made.2,
    )

-- lines begin a submission where they are the first of lines that do
begins_front : (front more : List Line) → BeginsSubmission (front ++ more) → BeginsSubmission front
begins_front front more begins = record {
  submission = begins.submission;
  fit = begins.fit;
  behind = more ++ begins.behind;
  begins = begins.begins ∙ append_assoc front more begins.behind;
}

begins_take : (n : ℕ) (lines : List Line) → BeginsSubmission lines → BeginsSubmission (take n lines)
begins_take n lines begins = begins_front (take n lines) (drop n lines) (subst BeginsSubmission (sym (take-append-drop n lines)) begins)

-- the lines of items begin one
begins_said : (items : List Item) → MayAllBeSaid nothing_yet items → BeginsSubmission (lines_with items)
begins_said items said =
    let made = said_items items said in
    record { submission = made.0; fit = made.1; behind = []; begins = ap lines_with made.2 ∙ sym (append-nil (lines_with items)) }

-- and with lines of one more
begins_open : (items : List Item) (front : List Line) → MayAllBeSaid nothing_yet items → IsOpen (behind_items nothing_yet items) front
    → BeginsSubmission (lines_with items ++ front)
begins_open items front said (item, next, missing, may, is) =
    begins_front (lines_with items ++ front) (next ∷ missing)
    (subst BeginsSubmission lines (begins_said (items ++ item ∷ []) (said_more nothing_yet items item said may)))
  where
    lines : lines_with (items ++ item ∷ []) ≡ (lines_with items ++ front) ++ next ∷ missing
    lines = ap (λ it. first_line ∷ it)
        (flat_map-append item_lines items (item ∷ []) ∙ ap (λ it. flat_map item_lines items ++ it) (append-nil (item_lines item) ∙ is))
        ∙ sym (append_assoc (lines_with items) front (next ∷ missing))

pub a_missing_feed : AMissingFeedIsTold
a_missing_feed bytes items said lines lacks = record {
  none = λ submission is. lacks (heard_whole bytes submission is).2;
  first = λ earlier less. begins_take earlier (lines_of bytes) (subst BeginsSubmission (sym lines) (begins_said items said));
  ends = inr refl;
}

-- what is left of a submission behind these items
no_line_more : (items : List Item) (bad : Line) (behind : List Line) (submission : Submission) → MayAllBeSaid nothing_yet items
    → (GoesOn (behind_items nothing_yet items) (bad ∷ []) → ⊥) → IsFit submission
    → submission_lines submission ≡ lines_with items ++ bad ∷ behind → ⊥
no_line_more items bad behind submission said none fit same =
    let cut = cons_parts first_line first_line (flat_map item_lines (items_of submission)) (flat_map item_lines items ++ bad ∷ behind) same in
    let rest = left_behind nothing_yet items (items_of submission) (bad ∷ behind) said (submitted_items submission fit) cut.1 in
    at rest.left rest.said rest.lines
  where
    at : (left : List Item) → MayAllBeSaid (behind_items nothing_yet items) left → flat_map item_lines left ≡ bad ∷ behind → ⊥
    at [] said lines = cc
    at (item ∷ left) (may, said) lines =
        let parts = parts_of item (is_item (behind_items nothing_yet items) item may) in
        let own : parts.line ∷ (parts.behind ++ flat_map item_lines left) ≡ bad ∷ behind =
        sym (ap (λ it. it ++ flat_map item_lines left) parts.are) ∙ lines in
        let first = cons_parts parts.line bad (parts.behind ++ flat_map item_lines left) behind own in
        none (item, parts.behind, may, parts.are ∙ ap (λ it. it ∷ parts.behind) first.0)

pub a_bad_line : ABadLineIsTold
a_bad_line bytes items bad behind said lines none = record {
  none = λ submission is. no_line_more items bad behind submission said none is.fit (sym (submission_lines_are bytes submission is) ∙ lines);
  first = λ earlier less. subst BeginsSubmission (sym (ap (take earlier) lines ∙ take-append-le earlier (lines_with items) (bad ∷ behind) (omega (arith, less))))
      (begins_take earlier (lines_with items) (begins_said items said));
  ends = inl (
    within,
    λ begins. no_line_more items bad begins.behind begins.submission said none begins.fit
        (begins.begins ∙ ap (λ it. it ++ begins.behind) front ∙ append_assoc (lines_with items) (bad ∷ []) begins.behind),
  );
}
  where
    within : length (lines_with items) + 1 ≤ length (lines_of bytes)
    within = omega (arith, ap (λ (it : List Line). length it) lines, length-append (lines_with items) (bad ∷ behind))

    front : take (length (lines_with items) + 1) (lines_of bytes) ≡ lines_with items ++ bad ∷ []
    front =
        let apart : lines_of bytes ≡ (lines_with items ++ bad ∷ []) ++ behind = lines ∙ sym (append_assoc (lines_with items) (bad ∷ []) behind) in
        let many : length (lines_with items) + 1 ≡ length (lines_with items ++ bad ∷ []) = sym (length-append (lines_with items) (bad ∷ [])) in
        ap (λ n. take n (lines_of bytes)) many ∙ ap (take (length (lines_with items ++ bad ∷ []))) apart
        ∙ take-append_seam (lines_with items ++ bad ∷ []) behind

-- no submission ends where an item goes on
no_end : (items : List Item) (front : List Line) (submission : Submission) → MayAllBeSaid nothing_yet items → front ≢ []
    → IsOpen (behind_items nothing_yet items) front → IsFit submission → submission_lines submission ≡ lines_with items ++ front → ⊥
no_end items front submission said some (item, next, missing, may, is) fit same =
    let cut = cons_parts first_line first_line (flat_map item_lines (items_of submission)) (flat_map item_lines items ++ front) same in
    let rest = left_behind nothing_yet items (items_of submission) front said (submitted_items submission fit) cut.1 in
    at rest.left rest.said rest.lines
  where
    nothing : (lines : List Line) → lines ++ next ∷ missing ≡ [] → ⊥
    nothing [] e = cc
    nothing (line ∷ lines) e = cc

    at : (left : List Item) → MayAllBeSaid (behind_items nothing_yet items) left → flat_map item_lines left ≡ front → ⊥
    at [] said lines = some (sym lines)
    at (other ∷ left) (may_other, said) lines =
        let so_far = behind_items nothing_yet items in
        let whole : item_lines item ++ [] ≡ item_lines other ++ (flat_map item_lines left ++ next ∷ missing) =
        append-nil (item_lines item) ∙ is ∙ ap (λ it. it ++ next ∷ missing) (sym lines) ∙ append_assoc (item_lines other) (flat_map item_lines left) (next ∷ missing) in
        let one = one_item item other [] (flat_map item_lines left ++ next ∷ missing) (is_item so_far item may) (is_item so_far other may_other) whole in
        nothing (flat_map item_lines left) (sym one.1)

pub an_end_within : AnEndWithinAnItemIsTold
an_end_within bytes items front said lines some goes_on = record {
  none = λ submission is. no_end items front submission said some goes_on is.fit (sym (submission_lines_are bytes submission is) ∙ lines);
  first = λ earlier less. begins_take earlier (lines_of bytes) (subst BeginsSubmission (sym lines) (begins_open items front said goes_on));
  ends = inr refl;
}

earlier_than_first : (lines : List Line) (earlier : ℕ) → earlier < 1 → BeginsSubmission (take earlier lines)
earlier_than_first lines zero less = begins_front [] (lines_with []) (begins_said [] tt)
earlier_than_first lines (suc n) less = absurd (omega arith)

other_first : (bad : Line) (more others : List Line) → bad ≢ first_line → bad ∷ more ≡ first_line ∷ others → ⊥
other_first bad more others other same = other (cons_parts bad first_line more others same).0

pub another_first : AnotherFirstLineIsTold
another_first bytes bad behind lines other = record {
  none = λ submission is. other_first bad behind (flat_map item_lines (items_of submission)) other (sym lines ∙ submission_lines_are bytes submission is);
  first = earlier_than_first (lines_of bytes);
  ends = inl (
    omega (arith, ap (λ (it : List Line). length it) lines),
    λ begins.
        other_first bad begins.behind (flat_map item_lines (items_of begins.submission)) other
        (ap (λ it. it ++ begins.behind) (sym (ap (take 1) lines)) ∙ sym begins.begins),
  );
}

pub no_line : NoLineIsTold
no_line bytes empty = record {
  none = λ submission is. clash (flat_map item_lines (items_of submission)) (sym empty ∙ submission_lines_are bytes submission is);
  first = earlier_than_first (lines_of bytes);
  ends = inr (ap (λ (it : List Line). length it + 1) (sym empty));
}
  where
    clash : (more : List Line) → ◌≡◌ {A = List Line} [] (first_line ∷ more) → ⊥
    clash more e = cc
