-- The laws of certificates.
use Rattle.std.specs.Prelude.{◌≡◌, ◌⊎◌, ℕ, List}
use Rattle.cc_certificate_text.specs.Certificates.{Line, IsCertificate, IsBadLine}

-- bytes are the text of one certificate at most
abbrev pub BytesAreOneCertificate : Type 0
BytesAreOneCertificate = (bytes : List ℕ) (a b : List Line) → IsCertificate bytes a → IsCertificate bytes b → a ≡ b

-- a certificate has no bad line
abbrev pub NeverACertificateAndABadLine : Type 0
NeverACertificateAndABadLine =
    (bytes : List ℕ) (lines : List Line) (number : ℕ) → IsCertificate bytes lines → IsBadLine bytes number → ⊥

-- one line at most is the bad one
abbrev pub BytesHaveOneBadLine : Type 0
BytesHaveOneBadLine = (bytes : List ℕ) (m n : ℕ) → IsBadLine bytes m → IsBadLine bytes n → m ≡ n

-- bytes are a certificate, or one of their lines is the bad one
abbrev pub BytesAreACertificateOrHaveABadLine : Type 0
BytesAreACertificateOrHaveABadLine =
    (bytes : List ℕ) → ((lines : List Line) × IsCertificate bytes lines) ⊎ ((number : ℕ) × IsBadLine bytes number)
