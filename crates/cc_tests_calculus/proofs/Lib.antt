pub mod RowsOfHoles
