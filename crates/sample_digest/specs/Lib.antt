pub mod SampleDigest
