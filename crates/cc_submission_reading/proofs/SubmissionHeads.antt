-- What the line of an item says is the item of which it is the line.
use Rattle.std.proofs.Common.{◌≡◌, ℕ, ◌≤◌, true, List, [], ◌∷◌, ◌++◌, length, Option, Some, None, refl, sym, ap, ◌∙◌, subst, ⊎_elim, arith}
use Rattle.std.specs.Prelude.{codes, encode_utf8_all, IsTrue}
use Rattle.std.specs.Fmt.{decimal, signed_decimal}
use Rattle.std.specs.Str.{bytes_eq}
use Rattle.cc_base.specs.Names.{IsName}
use Rattle.cc_base.specs.declared.device.DeviceDecl.{DeviceDecl}
use Rattle.cc_base.specs.declared.device.Kind.{Kind}
use Rattle.cc_base.specs.declared.device.Kind.TheVariants.{Console, File, Counter}
use Rattle.cc_job.specs.Jobs as job
use Rattle.cc_job.specs.Jobs.{text}
use Rattle.cc_job.specs.Reading.{head_of}
use Rattle.cc_job.specs.declared.head.Head.{Head}
use Rattle.cc_job.specs.declared.head.Head.TheVariants as job_heads
use Rattle.cc_job.proofs.HeadLaws.{some_same, choice, is_word, first_gives, no_length, head_of-item}
use Rattle.cc_job.proofs.Standing.{line_of_text, item_lines_are}
use Rattle.cc_words.specs.Lines.{Line, lines_of, AreWholeLines}
use Rattle.cc_words.specs.Words.{joined, pair_text, IsPair, ◌>>=◌, split_at, first_and_rest, two_of, name_of, pair_of, number_of, signed_of, has_64_bits}
use Rattle.cc_words.proofs.NameBytes.{name_of-encoded, Lacks-name}
use Rattle.cc_words.proofs.Steps.{some_from_bind, name_of_gives}
use Rattle.cc_words.proofs.Splits.{AllLack, Lacks-test, split_at-joined, joined-split_at}
use Rattle.cc_words.proofs.LineLists.{terminated, lines_of-whole, whole-terminated, cons_parts}
use Rattle.cc_words.proofs.Numbers.{Lacks-decimal, Lacks-signed, Lacks-pair, AllLack-map, number_of_gives, number_of-decimal, two_of_gives, pair_of_gives, pair_of-text}
use Rattle.cc_vouching.specs.Submissions.{Item, Declares, Presents, Claims, IsItem, AreCounted, counted_lines, item_lines}
use Rattle.cc_submission_reading.specs.declared.heads.ItemHead.{ItemHead}
use Rattle.cc_submission_reading.specs.declared.heads.ItemHead.TheVariants as heads
use Rattle.cc_submission_reading.specs.HeadReading.{declared_in, module_of, claim_of, head_with, item_head_of, line_count, item_with}

pub text_is : (lines : List Line) → text lines ≡ terminated lines
text_is [] = refl
text_is (line ∷ lines) = ap (λ it. line ++ 10 ∷ it) (text_is lines)

pub lines_of_text : (lines : List Line) → AllLack 10 lines → lines_of (text lines) ≡ lines
lines_of_text lines lack = ap lines_of (text_is lines) ∙ lines_of-whole lines lack

pub whole_text : (lines : List Line) → AreWholeLines (text lines)
whole_text lines = subst AreWholeLines (sym (text_is lines)) (whole-terminated lines)

-- the line is that of an item with these lines behind it
pub record IsItemLine (line : Line) (head : ItemHead) (lines : List Line) : Type 0 where
  pub item : IsItem (item_with head (text lines))
  pub are : item_lines (item_with head (text lines)) ≡ line ∷ lines

counted_are : (words : List (List ℕ)) (line : Line) (lines : List Line) → AllLack 10 lines
    → line ≡ joined 32 (words ++ decimal (length lines) ∷ []) → counted_lines words (text lines) ≡ line ∷ lines
counted_are words line lines lack same =
    ap (λ it. joined 32 (words ++ decimal (length it) ∷ []) ∷ it) (lines_of_text lines lack) ∙ ap (λ it. it ∷ lines) (sym same)

counted : (lines : List Line) (n : ℕ) → AllLack 10 lines → length lines ≡ n → n ≤ 4194304 → AreCounted (text lines)
counted lines n lack many few =
    (whole_text lines, omega (arith, ap (λ (it : List Line). length it) (lines_of_text lines lack), many, few))

-- what the words behind the first say, where the line is these words
abbrev SaysWords : Line → ItemHead → Type 0
SaysWords line head = (lines : List Line) → AllLack 10 lines → length lines ≡ line_count head → IsItemLine line head lines

device_gives : (line : Line) (found : Option Head) (head : ItemHead) → head_of line ≡ found → declared_in found ≡ Some head
    → SaysWords line head
device_gives line None head says h = cc
device_gives line (Some (job_heads.Device device)) head says h =
    subst (SaysWords line) (some_same (heads.Device device) head h) given
  where
    given : SaysWords line (heads.Device device)
    given lines lack many =
        let none = no_length lines many in
        let of = line_of_text line (job_heads.Device device) [] [] says tt refl tt refl in
        subst (IsItemLine line (heads.Device device)) (sym none)
        (record { item = of.item; are = item_lines_are line (job_heads.Device device) [] [] [] tt refl of })
device_gives line (Some (job_heads.Put name count)) head says h = cc
device_gives line (Some (job_heads.Verify count)) head says h = cc
device_gives line (Some (job_heads.Policy count)) head says h = cc
device_gives line (Some (job_heads.Replay owner definition fuel count)) head says h = cc
device_gives line (Some (job_heads.Command command)) head says h = cc

module_gives : (line : Line) (words : List (List ℕ)) (head : ItemHead) → line ≡ joined 32 (codes "module" ∷ words)
    → module_of words ≡ Some head → SaysWords line head
unfolding module_of
module_gives line words head spelled h =
    let two = some_from_bind (two_of words) (λ two. name_of two.0 >>= λ name. number_of 4194304 two.1 >>= λ count. Some (heads.Module name count)) head h in
    let found = some_from_bind (name_of two.0.0) (λ name. number_of 4194304 two.0.1 >>= λ count. Some (heads.Module name count)) head two.2 in
    let count = some_from_bind (number_of 4194304 two.0.1) (λ count. Some (heads.Module found.0 count)) head found.2 in
    let name = name_of_gives two.0.0 found.0 found.1 in
    let number = number_of_gives 4194304 two.0.1 count.0 (omega arith) count.1 in
    let words_are : words ≡ encode_utf8_all found.0 ∷ decimal count.0 ∷ [] =
    two_of_gives words two.0.0 two.0.1 two.1 ∙ (ap (λ w. w ∷ two.0.1 ∷ []) name.1 ∙ ap (λ w. encode_utf8_all found.0 ∷ w ∷ []) number.1) in
    subst (SaysWords line) (some_same (heads.Module found.0 count.0) head count.2)
    (λ lines lack many. record {
      item = (name.0, counted lines count.0 lack many number.0);
      are = counted_are (codes "module" ∷ encode_utf8_all found.0 ∷ []) line lines lack
          (spelled ∙ ap (λ ws. joined 32 (codes "module" ∷ ws)) words_are
          ∙ ap (λ n. joined 32 (codes "module" ∷ encode_utf8_all found.0 ∷ decimal n ∷ [])) (sym many));
    })

claim_gives : (line : Line) (words : List (List ℕ)) (head : ItemHead) → line ≡ joined 32 (codes "claim" ∷ words)
    → claim_of words ≡ Some head → SaysWords line head
unfolding claim_of
claim_gives line words head spelled h =
    let two = some_from_bind (two_of words) (λ two. pair_of two.0 >>= λ pair. number_of 4194304 two.1 >>= λ count. Some (heads.Claim pair.0 pair.1 count)) head h in
    let found = some_from_bind (pair_of two.0.0) (λ pair. number_of 4194304 two.0.1 >>= λ count. Some (heads.Claim pair.0 pair.1 count)) head two.2 in
    let count = some_from_bind (number_of 4194304 two.0.1) (λ count. Some (heads.Claim found.0.0 found.0.1 count)) head found.2 in
    let pair = pair_of_gives two.0.0 found.0 found.1 in
    let number = number_of_gives 4194304 two.0.1 count.0 (omega arith) count.1 in
    let words_are : words ≡ pair_text found.0 ∷ decimal count.0 ∷ [] =
    two_of_gives words two.0.0 two.0.1 two.1 ∙ (ap (λ w. w ∷ two.0.1 ∷ []) pair.1 ∙ ap (λ w. pair_text found.0 ∷ w ∷ []) number.1) in
    subst (SaysWords line) {x = heads.Claim found.0.0 found.0.1 count.0} (some_same (heads.Claim found.0.0 found.0.1 count.0) head count.2)
    (λ lines lack many. record {
      item = (pair.0, counted lines count.0 lack many number.0);
      are = counted_are (codes "claim" ∷ pair_text found.0 ∷ []) line lines lack
          (spelled ∙ ap (λ ws. joined 32 (codes "claim" ∷ ws)) words_are
          ∙ ap (λ n. joined 32 (codes "claim" ∷ pair_text found.0 ∷ decimal n ∷ [])) (sym many));
    })

head_with_gives : (line : Line) (word : List ℕ) (words : List (List ℕ)) (head : ItemHead) → line ≡ joined 32 (word ∷ words)
    → head_with line word words ≡ Some head → SaysWords line head
unfolding head_with
head_with_gives line word words head spelled h =
    ⊎_elim (λ found. device_gives line (head_of line) head refl found.1) (λ other.
    ⊎_elim (λ found. module_gives line words head (by (codes "module") found.0) found.1) (λ other.
    ⊎_elim (λ found. claim_gives line words head (by (codes "claim") found.0) found.1) (λ none. nothing none.1)
    (choice (bytes_eq word (codes "claim")) (claim_of words) None head other.1))
    (choice (bytes_eq word (codes "module")) (module_of words) _ head other.1))
    (choice (bytes_eq word (codes "device")) (declared_in (head_of line)) _ head h)
  where
    by : (asked : List ℕ) → bytes_eq word asked ≡ true → line ≡ joined 32 (asked ∷ words)
    by asked test = spelled ∙ ap (λ w. joined 32 (w ∷ words)) (is_word word asked test)

    nothing : {B : Type 0} → ◌≡◌ {A = Option ItemHead} None (Some head) → B
    nothing e = cc

-- a line that says what an item is, with so many lines behind it, has the lines of that item
pub item_head_of_gives : (line : Line) (head : ItemHead) → item_head_of line ≡ Some head → SaysWords line head
unfolding item_head_of
item_head_of_gives line head h =
    let split = some_from_bind (first_and_rest (split_at 32 line)) (λ split. head_with line split.0 split.1) head h in
    head_with_gives line split.0.0 split.0.1 head
    (sym (joined-split_at 32 line) ∙ ap (joined 32) (first_gives (split_at 32 line) split.0 split.1)) split.2

-- what the line of an item says
abbrev pub head_for : Item → ItemHead
head_for (Declares device) = heads.Device device
head_for (Presents name source) = heads.Module name (length (lines_of source))
head_for (Claims owner definition certificate) = heads.Claim owner definition (length (lines_of certificate))

item_head_of-joined : (line : Line) (word : List ℕ) (words : List (List ℕ)) → AllLack 32 (word ∷ words) → line ≡ joined 32 (word ∷ words)
    → item_head_of line ≡ head_with line word words
unfolding item_head_of
item_head_of-joined line word words lack is =
    rw (is, split_at-joined 32 word words lack) refl

module-says : (line : Line) (name : List ℕ) (count : ℕ) → IsName name → count ≤ 4194304
    → head_with line (codes "module") (encode_utf8_all name ∷ decimal count ∷ []) ≡ Some (heads.Module name count)
unfolding head_with module_of
module-says line name count is few = rw (name_of-encoded name is, number_of-decimal 4194304 count (omega arith) few) refl

claim-says : (line : Line) (pair : List ℕ × List ℕ) (count : ℕ) → IsPair pair → count ≤ 4194304
    → head_with line (codes "claim") (pair_text pair ∷ decimal count ∷ []) ≡ Some (heads.Claim pair.0 pair.1 count)
unfolding head_with claim_of
claim-says line pair count is few = rw (pair_of-text pair is, number_of-decimal 4194304 count (omega arith) few) refl

kind_lacks : (kind : Kind) → job.IsKind kind → AllLack 32 (job.kind_words kind)
kind_lacks Console is = (Lacks-test 32 (codes "console") refl, tt)
kind_lacks (File numbers) is =
    (Lacks-test 32 (codes "file") refl, AllLack-map signed_of (λ z. IsTrue (has_64_bits z)) signed_decimal 32 (λ z h. Lacks-signed z h) numbers is)
kind_lacks Counter is = (Lacks-test 32 (codes "counter") refl, tt)

device-says : (line : Line) (device : DeviceDecl) (rest : List (List ℕ)) → head_of line ≡ Some (job_heads.Device device)
    → head_with line (codes "device") rest ≡ Some (heads.Device device)
unfolding head_with
device-says line device rest says = ap declared_in says

-- the first line of an item says what the item is
pub item_head_of-item : (item : Item) (line : Line) (behind : List Line) → IsItem item → item_lines item ≡ line ∷ behind
    → item_head_of line ≡ Some (head_for item)
item_head_of-item (Declares device) line behind is same =
    let words = job.item_words (job.Declares device) in
    let spelled : line ≡ joined 32 words = sym (cons_parts (joined 32 words) line [] behind same).0 in
    item_head_of-joined line (codes "device") (encode_utf8_all device.name ∷ job.kind_words device.kind)
    (Lacks-test 32 (codes "device") refl, (Lacks-name 32 device.name refl is.0, kind_lacks device.kind is.1)) spelled
    ∙ device-says line device (encode_utf8_all device.name ∷ job.kind_words device.kind)
    (ap head_of spelled ∙ head_of-item (job.Declares device) is)
item_head_of-item (Presents name source) line behind is same =
    let count = length (lines_of source) in
    let spelled : line ≡ joined 32 (codes "module" ∷ encode_utf8_all name ∷ decimal count ∷ []) =
    sym (cons_parts (joined 32 (codes "module" ∷ encode_utf8_all name ∷ decimal count ∷ [])) line (lines_of source) behind same).0 in
    item_head_of-joined line (codes "module") (encode_utf8_all name ∷ decimal count ∷ [])
    (Lacks-test 32 (codes "module") refl, (Lacks-name 32 name refl is.0, (Lacks-decimal 32 count (omega arith) (omega (arith, is.1.1)), tt))) spelled
    ∙ module-says line name count is.0 is.1.1
item_head_of-item (Claims owner definition certificate) line behind is same =
    let count = length (lines_of certificate) in
    let spelled : line ≡ joined 32 (codes "claim" ∷ pair_text (owner, definition) ∷ decimal count ∷ []) =
    sym (cons_parts (joined 32 (codes "claim" ∷ pair_text (owner, definition) ∷ decimal count ∷ [])) line (lines_of certificate) behind same).0 in
    item_head_of-joined line (codes "claim") (pair_text (owner, definition) ∷ decimal count ∷ [])
    (Lacks-test 32 (codes "claim") refl, (Lacks-pair (owner, definition) is.0, (Lacks-decimal 32 count (omega arith) (omega (arith, is.1.1)), tt))) spelled
    ∙ claim-says line (owner, definition) count is.0 is.1.1
