pub mod CertificateTextLaws
pub mod Certificates
pub mod DefinitionCertificates
pub mod ExampleCertificates
pub mod TermTextExamples
pub mod WaitingLines
