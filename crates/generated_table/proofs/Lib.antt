pub mod GeneratedTable
