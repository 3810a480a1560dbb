-- What the parts of a certificate's bytes are on the way. It goes the way of the code, and serves proofs.
use Rattle.std.specs.Prelude.{◌≡◌, ℕ, ◌+◌, ◌≤◌, List, [], ◌∷◌, ◌++◌, length, map, Result, Ok, Err}
use Rattle.std.specs.Borrow.{Bor}
use Rattle.std.specs.List.{AllByRecursion, IsDistinct}
use Rattle.std.specs.Str.{bytes_eq}
use Rattle.cc_base.specs.Names.{IsName}
use Rattle.cc_core.specs.Places.{places_of}
use Rattle.cc_core.specs.TermViews.{type_of, term_of}
use Rattle.cc_certificate_text.specs.Certificates.{Line, Opens, Binds, States, Start, Proving, AllFit, behind_lines}
use Rattle.cc_certificate_text.specs.Certificates.{lines_text, IsCertificate, IsBadLine}
use Rattle.cc_certificate_reading.specs.FirstPlaces.{AreFirst}
use Rattle.cc_certificate_reading.specs.declared.stop.Stop.{Stop}
use Rattle.cc_certificate_reading.specs.declared.stop.Stop.TheVariants as stops
use Rattle.cc_certificate_reading.specs.CertificateViews.{bind_line_of, node_line_of}
use Rattle.cc_certificate_reading.specs.declared.certificate.CertNode.{CertNode}
use Rattle.cc_certificate_reading.specs.declared.certificate.ReadCertError.{ReadCertError}
use Rattle.cc_certificate_reading.specs.declared.certificate.ReadCertError.TheVariants.{NoMemory, BadCert}
use Rattle.cc_certificate_reading.specs.declared.read.Entry.{Entry}
use Rattle.cc_certificate_reading.specs.declared.read.Entry.TheVariants as entries
use Rattle.cc_certificate_reading.specs.declared.read.Heading.{Heading}

-- the line of a bind or of the term
abbrev pub entry_line_of : Entry → Line
entry_line_of (entries.Bind name type) = Binds name (type_of type)
entry_line_of (entries.Term term) = States (term_of term)

-- where it is the term, all its places are the first one of a text
abbrev pub IsPlacedEntry : Entry → Type 0
IsPlacedEntry (entries.Bind name type) = Unit {0}
IsPlacedEntry (entries.Term term) = AreFirst (places_of term)

-- the number behind, unless it is too great
abbrev pub IsNextLine : ℕ → Result ℕ ReadCertError → Type 0
IsNextLine number (Ok next) = next ≡ number + 1
IsNextLine number (Err NoMemory) = Unit {0}
IsNextLine number (Err (BadCert line)) = ⊥

-- the refusal of the line behind so many
abbrev pub StopsAs : Stop → ℕ → ReadCertError → Type 0
StopsAs stops.Misfit lines (BadCert line) = line ≡ lines + 1
StopsAs stops.Misfit lines NoMemory = Unit {0}
StopsAs stops.NoMemory lines (BadCert line) = ⊥
StopsAs stops.NoMemory lines NoMemory = Unit {0}

-- the lines before the nodes
abbrev pub heading_lines : Heading → List Line
heading_lines heading = (Opens ∷ map bind_line_of heading.binds.items) ++ States (term_of heading.term) ∷ []

-- the bytes begin with these lines, which fit
pub record IsHeading (bytes : List ℕ) (heading : Heading) (rest : List ℕ) : Type 0 where
  pub fit : AllFit Start (heading_lines heading)
  pub ends : behind_lines Start (heading_lines heading) ≡ Proving heading.names 0 []
  pub written : bytes ≡ lines_text Start (heading_lines heading) ++ rest
  pub named : AllByRecursion IsName heading.names
  pub apart : IsDistinct bytes_eq heading.names
  pub counted : heading.lines ≡ length (heading_lines heading)
  pub few : length heading.names ≤ 4294967296

abbrev pub ReadsHeading : List ℕ → Result (Heading × Bor (List ℕ)) ReadCertError → Type 0
ReadsHeading bytes (Ok read) = IsHeading bytes read.0 read.1.now
ReadsHeading bytes (Err (BadCert line)) = IsBadLine bytes line
ReadsHeading bytes (Err NoMemory) = Unit {0}

-- the nodes stand behind the heading at the end of the bytes, or a line is bad
abbrev pub ReadsNodes : {A : Type 0} → (A → List CertNode) → List ℕ → Heading → Result A ReadCertError → Type 0
ReadsNodes view bytes heading (Ok nodes) = IsCertificate bytes (heading_lines heading ++ map node_line_of (view nodes))
ReadsNodes view bytes heading (Err (BadCert line)) = IsBadLine bytes line
ReadsNodes view bytes heading (Err NoMemory) = Unit {0}
