pub mod ElaborationRows
