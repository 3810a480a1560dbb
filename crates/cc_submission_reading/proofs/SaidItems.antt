-- Items that may be said one behind the other are those of a submission.
use Rattle.std.proofs.Common.{◌≡◌, ℕ, ◌≤◌, false, List, [], ◌∷◌, ◌++◌, length, map, Option, Some, None, refl, sym, ap, subst, ◌∙◌, arith, append_assoc, append-nil, length-append}
use Rattle.std.specs.List.{AllByRecursion, IsDistinct, flat_map}
use Rattle.std.specs.Str.{bytes_eq}
use Rattle.std.proofs.lemmas.Grind.{flat_map-append}
use Rattle.cc_base.specs.declared.device.DeviceDecl.{DeviceDecl}
use Rattle.cc_job.proofs.HeadLaws.{some_same}
use Rattle.cc_job.proofs.Standing.{map-append}
use Rattle.cc_vouching.specs.Submissions.{Claim, ClaimedModule, Submission, Item, Declares, Presents, Claims, IsItem, module_items, items_of}
use Rattle.cc_submission_reading.specs.Submitting.{SoFar, nothing_yet, behind_item, last_of, MaySubmit, MayAllBeSaid, behind_items}
use Rattle.cc_submission_reading.specs.SubmissionReadingLaws.{SaidItemsAreSubmitted, SubmittedItemsAreSaid}
use Rattle.cc_submission_reading.proofs.ItemFronts.{is_item}
use Rattle.cc_submission_reading.proofs.LastNames.{last_pushed}

-- each of them is an item
pub are_items : (so_far : SoFar) (items : List Item) → MayAllBeSaid so_far items → AllByRecursion IsItem items
are_items so_far [] said = tt
are_items so_far (item ∷ items) (may, said) = (is_item so_far item may, are_items (behind_item so_far item) items said)

-- one more may be said behind them
pub said_more : (so_far : SoFar) (items : List Item) (item : Item) → MayAllBeSaid so_far items
    → MaySubmit (behind_items so_far items) item → MayAllBeSaid so_far (items ++ item ∷ [])
said_more so_far [] item said may = (may, tt)
said_more so_far (first ∷ items) item (first_may, said) may = (first_may, said_more (behind_item so_far first) items item said may)

abbrev names_of : List ClaimedModule → List (List ℕ)
names_of modules = map (λ it. it.name) modules

-- A submission of these items behind others, but for what is so of each item.
record Made (front items : List Item) : Type 0 where
  submission : Submission
  few : length submission.devices ≤ 16
  devices_differ : IsDistinct bytes_eq (map (λ device. device.name) submission.devices)
  modules_differ : IsDistinct bytes_eq (names_of submission.modules)
  are : items_of submission ≡ front ++ items

-- the module with a claim more
abbrev claimed : ClaimedModule → List ℕ → List ℕ → ClaimedModule
claimed it definition certificate = record {
  name = it.name;
  source = it.source;
  claims = it.claims ++ record { definition = definition; certificate = certificate } ∷ [];
}

abbrev bare_module : List ℕ → List ℕ → ClaimedModule
bare_module name source = record { name = name; source = source; claims = [] }

-- the items of modules of which the last one has a claim more
pub items_claimed : (done : List ClaimedModule) (last : ClaimedModule) (definition certificate : List ℕ)
    → flat_map module_items (done ++ claimed last definition certificate ∷ [])
    ≡ flat_map module_items (done ++ last ∷ []) ++ Claims last.name definition certificate ∷ []
items_claimed [] last definition certificate =
    append-nil (module_items (claimed last definition certificate))
    ∙ ap (λ it. Presents last.name last.source ∷ it)
    (map-append (λ claim. Claims last.name claim.definition claim.certificate) last.claims (record { definition = definition; certificate = certificate } ∷ []))
    ∙ ap (λ it. it ++ Claims last.name definition certificate ∷ []) (sym (append-nil (module_items last)))
items_claimed (first ∷ done) last definition certificate =
    ap (λ it. module_items first ++ it) (items_claimed done last definition certificate)
    ∙ sym (append_assoc (module_items first) (flat_map module_items (done ++ last ∷ [])) (Claims last.name definition certificate ∷ []))

module _ (devices : List DeviceDecl) (few : length devices ≤ 16) (devices_differ : IsDistinct bytes_eq (map (λ device. device.name) devices)) where
  -- the items up to these modules
  abbrev up_to : List ClaimedModule → List Item
  up_to modules = map Declares devices ++ flat_map module_items modules

  made_whole : (modules : List ClaimedModule) → IsDistinct bytes_eq (names_of modules) → Made (up_to modules) []
  made_whole modules differ = record {
    submission = record { devices = devices; modules = modules };
    few = few;
    devices_differ = devices_differ;
    modules_differ = differ;
    are = sym (append-nil (map Declares devices ++ flat_map module_items modules));
  }

  -- behind one item more
  made_behind : (front more : List Item) (item : Item) (items : List Item) → more ≡ front ++ item ∷ [] → Made more items → Made front (item ∷ items)
  made_behind front more item items is made = record {
    submission = made.submission;
    few = made.few;
    devices_differ = made.devices_differ;
    modules_differ = made.modules_differ;
    are = made.are ∙ ap (λ it. it ++ items) is ∙ append_assoc front (item ∷ []) items;
  }

  no_names : (done : List ClaimedModule) (last : ClaimedModule) → names_of (done ++ last ∷ []) ≡ [] → ⊥
  no_names [] last e = cc
  no_names (first ∷ done) last e = cc

  names_pushed : (done : List ClaimedModule) (last : ClaimedModule) → names_of (done ++ last ∷ []) ≡ names_of done ++ last.name ∷ []
  names_pushed done last = map-append (λ it. it.name) done (last ∷ [])

  up_to_pushed : (modules : List ClaimedModule) (it : ClaimedModule) → up_to (modules ++ it ∷ []) ≡ up_to modules ++ module_items it
  up_to_pushed modules it =
      ap (λ more. map Declares devices ++ more) (flat_map-append module_items modules (it ∷ []) ∙ ap (λ more. flat_map module_items modules ++ more) (append-nil (module_items it)))
      ∙ sym (append_assoc (map Declares devices) (flat_map module_items modules) (module_items it))

  up_to_claimed : (done : List ClaimedModule) (last : ClaimedModule) (definition certificate : List ℕ)
      → up_to (done ++ claimed last definition certificate ∷ []) ≡ up_to (done ++ last ∷ []) ++ Claims last.name definition certificate ∷ []
  up_to_claimed done last definition certificate =
      ap (λ more. map Declares devices ++ more) (items_claimed done last definition certificate)
      ∙ sym (append_assoc (map Declares devices) (flat_map module_items (done ++ last ∷ [])) (Claims last.name definition certificate ∷ []))

  -- modules, of which the last one may have claims more
  made_modules : (items : List Item) (done : List ClaimedModule) (last : ClaimedModule) (names : List (List ℕ)) → names ≡ names_of (done ++ last ∷ [])
      → IsDistinct bytes_eq names → MayAllBeSaid (record { devices = devices; modules = names }) items
      → Made (up_to (done ++ last ∷ [])) items
  made_modules [] done last names are differ said = made_whole (done ++ last ∷ []) (subst (IsDistinct bytes_eq) are differ)
  made_modules (Declares device ∷ items) done last names are differ (may, said) = absurd (no_names done last (sym are ∙ may.1.early))
  made_modules (Presents name source ∷ items) done last names are differ (may, said) =
      made_behind (up_to (done ++ last ∷ [])) (up_to ((done ++ last ∷ []) ++ bare_module name source ∷ [])) (Presents name source) items
      (pushed (up_to_pushed (done ++ last ∷ []) (bare_module name source)))
      (made_modules items (done ++ last ∷ []) (bare_module name source) (names ++ name ∷ [])
      (named (names_pushed (done ++ last ∷ []) (bare_module name source))) may.1 said)
    where
      pushed : up_to ((done ++ last ∷ []) ++ bare_module name source ∷ []) ≡ up_to (done ++ last ∷ []) ++ module_items (bare_module name source)
          → up_to ((done ++ last ∷ []) ++ bare_module name source ∷ []) ≡ up_to (done ++ last ∷ []) ++ Presents name source ∷ []
      pushed e = e

      named : names_of ((done ++ last ∷ []) ++ bare_module name source ∷ []) ≡ names_of (done ++ last ∷ []) ++ (bare_module name source).name ∷ []
          → names ++ name ∷ [] ≡ names_of ((done ++ last ∷ []) ++ bare_module name source ∷ [])
      named e = ap (λ it. it ++ name ∷ []) are ∙ sym e
  made_modules (Claims owner definition certificate ∷ items) done last names are differ (may, said) =
      let owned : last.name ≡ owner =
      some_same last.name owner (sym (ap last_of (are ∙ names_pushed done last) ∙ last_pushed (names_of done) last.name) ∙ may.1) in
      subst (λ it. Made (up_to (done ++ last ∷ [])) (Claims it definition certificate ∷ items)) owned
      (made_behind (up_to (done ++ last ∷ [])) (up_to (done ++ claimed last definition certificate ∷ [])) (Claims last.name definition certificate) items
      (up_to_claimed done last definition certificate)
      (made_modules items done (claimed last definition certificate) names
      (are ∙ names_pushed done last ∙ named (names_pushed done (claimed last definition certificate))) differ said))
    where
      named : names_of (done ++ claimed last definition certificate ∷ []) ≡ names_of done ++ (claimed last definition certificate).name ∷ []
          → names_of done ++ last.name ∷ [] ≡ names_of (done ++ claimed last definition certificate ∷ [])
      named e = sym e

  first_module : (items : List Item) (name source : List ℕ) → IsDistinct bytes_eq (name ∷ [])
      → MayAllBeSaid (record { devices = devices; modules = name ∷ [] }) items → Made (map Declares devices) (Presents name source ∷ items)
  first_module items name source differ said =
      made_behind (map Declares devices) (up_to (bare_module name source ∷ [])) (Presents name source) items refl
      (made_modules items [] (bare_module name source) (name ∷ []) refl differ said)

  no_module : Made (map Declares devices) []
  unfolding IsDistinct
  no_module = record {
    submission = record { devices = devices; modules = [] };
    few = few;
    devices_differ = devices_differ;
    modules_differ = tt;
    are = refl;
  }

made_devices : (items : List Item) (devices : List DeviceDecl) → length devices ≤ 16
    → IsDistinct bytes_eq (map (λ device. device.name) devices) → MayAllBeSaid (record { devices = devices; modules = [] }) items
    → Made (map Declares devices) items
made_devices [] devices few differ said = no_module devices few differ
made_devices (Declares device ∷ items) devices few differ (may, said) =
    made_behind devices few differ (map Declares devices) (map Declares (devices ++ device ∷ [])) (Declares device) items
    (map-append Declares devices (device ∷ []))
    (made_devices items (devices ++ device ∷ []) (omega (arith, may.1.few, length-append devices (device ∷ []))) may.1.names said)
made_devices (Presents name source ∷ items) devices few differ (may, said) = first_module devices few differ items name source may.1 said
made_devices (Claims owner definition certificate ∷ items) devices few differ (may, said) =
    let clash : ◌≡◌ {A = Option (List ℕ)} None (Some owner) = may.1 in cc

pub said_items : SaidItemsAreSubmitted
unfolding IsDistinct
said_items items said =
    let made = made_devices items [] (omega arith) tt said in (
      made.submission,
      record {
        few = made.few;
        devices_differ = made.devices_differ;
        modules_differ = made.modules_differ;
        items = subst (AllByRecursion IsItem) (sym made.are) (are_items nothing_yet items said);
      },
      made.are,
    )

-- names that differ differ in front
all_front : {A : Type 0} (P : A → Type 0) (xs ys : List A) → AllByRecursion P (xs ++ ys) → AllByRecursion P xs
all_front P [] ys all = tt
all_front P (x ∷ xs) ys all = (all.0, all_front P xs ys all.1)

distinct_front : (xs ys : List (List ℕ)) → IsDistinct bytes_eq (xs ++ ys) → IsDistinct bytes_eq xs
unfolding IsDistinct
distinct_front [] ys differ = tt
distinct_front (x ∷ xs) ys differ = (all_front (λ y. bytes_eq x y ≡ false) xs ys differ.0, distinct_front xs ys differ.1)

-- what may be said behind the claims of a module
said_claims : (so_far : SoFar) (name : List ℕ) (claims : List Claim) (items : List Item) → last_of so_far.modules ≡ Some name
    → AllByRecursion IsItem (map (λ claim. Claims name claim.definition claim.certificate) claims ++ items)
    → (AllByRecursion IsItem items → MayAllBeSaid so_far items)
    → MayAllBeSaid so_far (map (λ claim. Claims name claim.definition claim.certificate) claims ++ items)
said_claims so_far name [] items last are behind = behind are
said_claims so_far name (claim ∷ claims) items last are behind =
    ((are.0, last), said_claims so_far name claims items last are.1 behind)

said_modules : (devices : List DeviceDecl) (names : List (List ℕ)) (modules : List ClaimedModule) → IsDistinct bytes_eq (names ++ names_of modules)
    → AllByRecursion IsItem (flat_map module_items modules)
    → MayAllBeSaid (record { devices = devices; modules = names }) (flat_map module_items modules)
said_modules devices names [] differ are = tt
said_modules devices names (it ∷ modules) differ are =
    let more = subst (IsDistinct bytes_eq) (assoc names (names_of modules)) differ in (
      (are.0, distinct_front (names ++ it.name ∷ []) (names_of modules) more),
      said_claims (record { devices = devices; modules = names ++ it.name ∷ [] }) it.name it.claims (flat_map module_items modules)
          (last_pushed names it.name) are.1
          (said_modules devices (names ++ it.name ∷ []) modules more),
    )
  where
    assoc : (names more : List (List ℕ)) → names ++ it.name ∷ more ≡ (names ++ it.name ∷ []) ++ more
    assoc names more = sym (append_assoc names (it.name ∷ []) more)

said_devices : (done devices : List DeviceDecl) (modules : List ClaimedModule) → length (done ++ devices) ≤ 16
    → IsDistinct bytes_eq (map (λ device. device.name) (done ++ devices)) → IsDistinct bytes_eq (names_of modules)
    → AllByRecursion IsItem (map Declares devices ++ flat_map module_items modules)
    → MayAllBeSaid (record { devices = done; modules = [] }) (map Declares devices ++ flat_map module_items modules)
said_devices done [] modules few differ apart are = said_modules done [] modules apart are
said_devices done (device ∷ devices) modules few differ apart are =
    let same : done ++ device ∷ devices ≡ (done ++ device ∷ []) ++ devices = sym (append_assoc done (device ∷ []) devices) in
    let more = subst (λ it. IsDistinct bytes_eq (map (λ device. device.name) it)) same differ in
    let here = distinct_front (map (λ device. device.name) (done ++ device ∷ [])) (map (λ device. device.name) devices)
    (subst (IsDistinct bytes_eq) (map-append (λ device. device.name) (done ++ device ∷ []) devices) more) in (
      (are.0, record { early = refl; few = omega (arith, few, length-append done (device ∷ devices)); names = here }),
      said_devices (done ++ device ∷ []) devices modules (subst (λ it. length it ≤ 16) same few) more apart are.1,
    )

pub submitted_items : SubmittedItemsAreSaid
submitted_items submission fit = said_devices [] submission.devices submission.modules fit.few fit.devices_differ fit.modules_differ fit.items
