pub mod Ecn
pub mod EcnAlone
pub mod RttEstimator
pub mod RttEstimatorAlone
pub mod PeerRttTrackerAlone
