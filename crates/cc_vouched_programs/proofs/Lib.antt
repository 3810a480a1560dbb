pub mod VouchedPrograms
