pub mod Binding
pub mod BindingExamples
pub mod BindingLaws
pub mod NamedBits
pub mod NamedDevices
