pub mod OnNumbers
pub mod GeneratedTable
