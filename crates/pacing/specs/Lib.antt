pub mod Counts
pub mod Records
pub mod TokenBucket
pub mod TokenBucketAlone
pub mod WriterPacer
pub mod WriterPacerAlone
