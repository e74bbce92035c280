mod AscendingRows
pub mod SortedRows
