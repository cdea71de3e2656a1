pub mod SampleRecords
